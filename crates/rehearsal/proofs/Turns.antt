-- What one turn of a run keeps.
use Rattle.std.proofs.Common.{◌≡◌, ℕ, ◌+◌, ◌<◌, ◌≤◌, List, [], ◌∷◌, ◌++◌, length, get_or, take, drop, set, Some, Result, vec_items, refl, ap, ◌∙◌, append_assoc, append-nil, arith}
use Rattle.std.proofs.lemmas.List.{drop_more, drop_all, drop-set-lt, take_all, take_more, take_more_set, map_push}
use Rattle.link.specs.Calls.{CallBytes}
use Rattle.link.specs.Steps.{View, reply, step, Did}
use Rattle.link.specs.declared.refusal.Refusal.{Refusal}
use Rattle.link.specs.declared.call.Answer.{Answer}
use Rattle.rehearsal.specs.declared.exchange.Exchange.{Exchange}
use Rattle.rehearsal.specs.Exchanges.{answer_of, call_of, told_by, request_of, calls_of, replies_of, requests_of}
use Rattle.rehearsal.specs.Turns.{AllBytes, replies, view_after}

-- the exchanges xs₀ at an endpoint that showed v₀ have been made as far as k: they are xs now, and it shows v
pub record Sofar
    (mix : List ℕ → List ℕ) (v₀ : View) (xs₀ : List Exchange) (v : View) (xs : List Exchange) (k : ℕ) : Type 0 where
  pub rest : drop k xs ≡ drop k xs₀
  pub requests : requests_of (take k xs) ≡ requests_of (take k xs₀)
  pub inputs : AllBytes (calls_of (take k xs₀))
  pub told : replies_of (take k xs) ++ replies mix v (calls_of (drop k xs₀)) ≡ replies mix v₀ (calls_of xs₀)
  pub shows : view_after mix v (calls_of (drop k xs₀)) ≡ view_after mix v₀ (calls_of xs₀)

pub sofar_none : {mix : List ℕ → List ℕ} {v : View} {xs : List Exchange} → Sofar mix v xs v xs 0
unfolding replies_of
sofar_none = record { rest = refl; requests = refl; inputs = tt; told = refl; shows = refl }

bytes_more :
    (xs : List Exchange) (x : Exchange) → AllBytes (calls_of xs) → CallBytes (call_of x) →
    AllBytes (calls_of (xs ++ x ∷ []))
bytes_more [] x h b = (b, tt)
bytes_more (y ∷ xs) x h b = (h.0, bytes_more xs x h.1 b)

-- an exchange that has been made has its reply behind those before it
replies_more :
    (xs : List Exchange) (x : Exchange) (a : Result Answer Refusal) → x.answer ≡ Some a →
    replies_of (xs ++ x ∷ []) ≡ replies_of xs ++ reply (answer_of a) (vec_items x.output) ∷ []
unfolding replies_of
replies_more [] x a e = ap (λ t. told_by t (vec_items x.output) ++ []) e
replies_more (y ∷ xs) x a e = rw (replies_more xs x a e, append_assoc) refl

module _
    {mix : List ℕ → List ℕ} {v₀ : View} {xs₀ : List Exchange} {v : View} {xs : List Exchange} {k : ℕ}
    (s : Sofar mix v₀ xs₀ v xs k) where
  -- one exchange more
  pub sofar_more :
      k < length xs → k < length xs₀ → (z x' : Exchange) (a : Result Answer Refusal) (v' : View) →
      x'.request ≡ (get_or xs k z).request → x'.answer ≡ Some a → CallBytes (call_of (get_or xs k z)) →
      Did mix v (call_of (get_or xs k z)) (answer_of a) (vec_items x'.output) v' →
      Sofar mix v₀ xs₀ v' (set xs k x') (k + 1)
  unfolding replies view_after
  sofar_more h h₀ z x' a v' same made b d =
      let x = get_or xs k z in
      let e = drop_more xs k z h in
      let e₀ = drop_more xs₀ k z h₀ in
      let r = s.rest in
      let here : get_or xs₀ k z ≡ x = cc in
      let later : drop (k + 1) xs ≡ drop (k + 1) xs₀ = cc in
      let first : drop k xs₀ ≡ x ∷ drop (k + 1) xs₀ = e₀ ∙ ap (λ (y : Exchange). y ∷ drop (k + 1) xs₀) here in
      let took : take (k + 1) (set xs k x') ≡ take k xs ++ x' ∷ [] = take_more_set xs k x' h in
      let took₀ : take (k + 1) xs₀ ≡ take k xs₀ ++ x ∷ [] =
      take_more xs₀ k z h₀ ∙ ap (λ (y : Exchange). take k xs₀ ++ y ∷ []) here in
      let new = reply (answer_of a) (vec_items x'.output) in
      let is : new ≡ (step mix v (call_of x)).reply = λ i. record { answer = d.answers i; output = d.writes i } in
      let R = replies mix v' (calls_of (drop (k + 1) xs₀)) in
      record {
        rest = drop-set-lt (k + 1) xs k x' (omega arith) ∙ later;
        requests =
            let e₁ = map_push request_of (take k xs) x' in
            let e₂ = map_push request_of (take k xs₀) x in
            let e₃ = s.requests in cc;
        inputs =
            rw took₀ (bytes_more (take k xs₀) x s.inputs b);
        told =
            let e₁ = replies_more (take k xs) x' a made in
            let e₂ = append_assoc (replies_of (take k xs)) (new ∷ []) R in
            let e₃ = d.shows in
            let e₄ = rw first at s.told in cc;
        shows =
            let e₁ = d.shows in
            let e₂ = rw first at s.shows in cc;
      }

  -- every exchange has been made
  module _ (h : length xs ≤ k) (h₀ : length xs₀ ≤ k) where
    pub all_requests : requests_of xs ≡ requests_of xs₀
    all_requests = cc (take_all k xs h, take_all k xs₀ h₀, s.requests)

    pub all_inputs : AllBytes (calls_of xs₀)
    all_inputs = rw (take_all k xs₀ h₀) at s.inputs

    pub all_told : replies_of xs ≡ replies mix v₀ (calls_of xs₀)
    unfolding replies
    all_told = rw (drop_all k xs₀ h₀, append-nil, take_all k xs h) at s.told

    pub all_shows : v ≡ view_after mix v₀ (calls_of xs₀)
    unfolding view_after
    all_shows = rw (drop_all k xs₀ h₀) at s.shows
