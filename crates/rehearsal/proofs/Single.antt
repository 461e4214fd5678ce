-- The model leaves nothing to choose.
use Rattle.std.proofs.Common.{◌≡◌, ℕ, ◌-◌, List, [], ◌∷◌, ◌++◌, length, drop, sym, refl, ◌∙◌}
use Rattle.link.specs.Sessions.{cost, Telegram, session_state, sealing}
use Rattle.link.specs.Calls.{Call, Answer, opened, Reply}
use Rattle.link.proofs.Sealings.{sealing_one}
use Rattle.rehearsal.specs.Model.{Model, live, SealsTo, telegram}
use Rattle.rehearsal.specs.Model.{Step, refuse, start, seal, accept, reject, tell, close, Runs, over, next}

abbrev Same : Answer → List ℕ → Model → Answer → List ℕ → Model → Type 0
Same a o m a' o' m' = (a ≡ a') × (o ≡ o') × (m ≡ m')

module _ (mix : List ℕ → List ℕ) where
  -- at most one message has these sealed bytes
  pub one_message :
      (key nonce : List ℕ) (ts : List Telegram) (a c p q : List ℕ) →
      SealsTo mix key nonce ts a c p → SealsTo mix key nonce ts a c q → p ≡ q
  unfolding sealing
  one_message key nonce ts a c p q h k = sealing_one mix (session_state mix key nonce ts) a p q (h.1 ∙ sym k.1)

  pub single :
      {m : Model} {c : Call} {w : Answer} {o : List ℕ} {n : Model} → Step mix m c w o n →
      {w' : Answer} {o' : List ℕ} {n' : Model} → Step mix m c w' o' n' → Same w o n w' o' n'
  single (refuse e) (refuse e') = (cc, refl, refl)
  single (refuse e) (start e') = cc
  single (refuse e) (seal e') = cc
  single (refuse e) (accept p e' h) = cc
  single (refuse e) (reject e' h) = cc
  single (refuse e) tell = cc
  single (refuse e) close = cc
  single (start e) (refuse e') = cc
  single (start e) (start e') = (refl, refl, refl)
  single (seal e) (refuse e') = cc
  single (seal e) (seal e') = (refl, refl, refl)
  single (accept p e h) (refuse e') = cc
  single (accept {left = l} {key = key} {nonce = nonce} {ts = ts} {a = a} {c = c} {out = out} p e h) (accept q e' k) =
      let s = one_message key nonce ts a c p q h k in (
        (λ i. opened (length (s i))),
        (λ i. s i ++ drop (length (s i)) out),
        λ i. live (l - cost (length a) (length (s i))) key nonce (ts ++ telegram a (s i) ∷ []),
      )
  single (accept p e h) (reject e' k) = absurd (k p h)
  single (reject e k) (refuse e') = cc
  single (reject e k) (accept p e' h) = absurd (k p h)
  single (reject e k) (reject e' k') = (refl, refl, refl)
  single tell (refuse e') = cc
  single tell tell = (refl, refl, refl)
  single close (refuse e') = cc
  single close close = (refl, refl, refl)

  pub single_run :
      {m : Model} {cs : List Call} {rs : List Reply} {n : Model} → Runs mix m cs rs n →
      {rs' : List Reply} {n' : Model} → Runs mix m cs rs' n' → (rs ≡ rs') × (n ≡ n')
  single_run over over = (refl, refl)
  single_run (next {cs = cs} s t) (next {m'' = z} {rs = rs'} s' t') =
      let h = single s s' in
      let k = single_run t (rw (← h.2) at t') in
      ((λ i. record { answer = h.0 i; output = h.1 i } ∷ k.0 i), k.1)
