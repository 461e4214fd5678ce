-- Where a call of a run was made, the model stands as the calls and replies before it say.
use Rattle.std.proofs.Common.{◌≡◌, ℕ, ◌+◌, ◌-◌, ◌≤◌, List, [], ◌∷◌, ◌++◌, length, drop, refl, ap, ◌∙◌, arith}
use Rattle.std.proofs.lemmas.Bool.{leb-true}
use Rattle.std.proofs.lemmas.List.{take_at}
use Rattle.link.specs.Sessions.{Telegram, session_state, sealing}
use Rattle.link.specs.Calls.{Call, Start, Seal, Open, Left, Close, Answer, Reply}
use Rattle.link.specs.Questions.{questions, passed, price}
use Rattle.link.proofs.Sealings.{length-sealing}
use Rattle.rehearsal.specs.Model.{Model, idle, live, phase_of, left_of, asked}
use Rattle.rehearsal.specs.Model.{Step, refuse, start, seal, accept, reject, tell, close, Runs, over, next}
use Rattle.rehearsal.specs.Histories.{Session, none, since, next_session, session_after, session_of, took, spent, Made}
use Rattle.rehearsal.proofs.Verdicts.{all_yes, questions_not_ten}

-- ---- the mixings

pays : (m : Model) (c : Call) → asked m c ≡ passed → price c ≤ left_of m
pays m (Start key nonce out) e =
    leb-true _ _ (all_yes (questions (phase_of m) (left_of m) (Start key nonce out)) e).1.1.1.0
pays m (Seal a p out) e = leb-true _ _ (all_yes (questions (phase_of m) (left_of m) (Seal a p out)) e).1.1.1.1.0
pays m (Open a c out) e = leb-true _ _ (all_yes (questions (phase_of m) (left_of m) (Open a c out)) e).1.1.1.1.1.0
pays m (Left out) e = omega arith
pays m (Close out) e = omega arith

module _ (mix : List ℕ → List ℕ) where
  counted_step :
      {m : Model} {c : Call} {w : Answer} {o : List ℕ} {m' : Model} → Step mix m c w o m' →
      left_of m ≡ left_of m' + took c w
  unfolding took sealing
  counted_step (refuse {m = m} {c = c} {number = n} {values = vs} e) =
      rw (questions_not_ten (phase_of m) (left_of m) c n vs e) (omega arith)
  counted_step (start {left = left} {key = key} {nonce = nonce} {out = out} e) =
      omega (arith, pays (idle left) (Start key nonce out) e)
  counted_step (seal {left = left} {key = key} {nonce = nonce} {ts = ts} {a = a} {p = p} {out = out} e) =
      omega (arith, pays (live left key nonce ts) (Seal a p out) e)
  counted_step (accept {left = left} {key = key} {nonce = nonce} {ts = ts} {a = a} {c = c} {out = out} p e h) =
      let long = length-sealing mix (session_state mix key nonce ts) a p in
      let n : length c - 8 ≡ length p = omega (arith, ap length h.1, long) in
      rw n (omega (arith, rw n at (pays (live left key nonce ts) (Open a c out) e)))
  counted_step (reject {left = left} {key = key} {nonce = nonce} {ts = ts} {a = a} {c = c} {out = out} e never) =
      omega (arith, pays (live left key nonce ts) (Open a c out) e)
  counted_step tell = omega arith
  counted_step close = omega arith

  pub counted_run :
      {m : Model} {cs : List Call} {rs : List Reply} {m' : Model} → Runs mix m cs rs m' →
      left_of m ≡ left_of m' + spent cs rs
  unfolding spent
  counted_run over = omega arith
  counted_run (next s t) = omega (arith, counted_step s, counted_run t)

-- ---- the session

abbrev session_in : Model → Session
session_in (idle left) = none
session_in (live left key nonce ts) = since key nonce ts

abbrev model_with : ℕ → Session → Model
model_with left none = idle left
model_with left (since key nonce ts) = live left key nonce ts

model_is : (m : Model) → m ≡ model_with (left_of m) (session_in m)
model_is (idle left) = refl
model_is (live left key nonce ts) = refl

after_more :
    (before : List Call) (told : List Reply) → length before ≡ length told → (c : Call) (r : Reply) (s : Session) →
    session_after s (before ++ c ∷ []) (told ++ r ∷ [])
    ≡ next_session (session_after s before told) c r.answer r.output
unfolding session_after
after_more [] [] even c r s = refl
after_more [] (r₁ ∷ told) even c r s = absurd (omega (arith, even))
after_more (c₁ ∷ before) [] even c r s = absurd (omega (arith, even))
after_more (c₁ ∷ before) (r₁ ∷ told) even c r s = after_more before told (omega (arith, even)) c r _

-- the session after one call more
pub session_more :
    (before : List Call) (told : List Reply) → length before ≡ length told → (c : Call) (r : Reply) →
    {s : Session} → session_of before told ≡ s →
    session_of (before ++ c ∷ []) (told ++ r ∷ []) ≡ next_session s c r.answer r.output
session_more before told even c r e =
    rw (after_more before told even c r none, e) refl

module _ (mix : List ℕ → List ℕ) where
  session_step :
      {m : Model} {c : Call} {w : Answer} {o : List ℕ} {m' : Model} → Step mix m c w o m' →
      session_in m' ≡ next_session (session_in m) c w o
  session_step (refuse e) = refl
  session_step (start e) = refl
  session_step (seal e) = refl
  session_step (accept {key = key} {nonce = nonce} {ts = ts} {a = a} {out = out} p e h) =
      rw (take_at p (drop (length p) out) (length p) refl) refl
  session_step (reject e never) = refl
  session_step tell = refl
  session_step close = refl

  session_run :
      {m : Model} {cs : List Call} {rs : List Reply} {m' : Model} → Runs mix m cs rs m' →
      session_in m' ≡ session_after (session_in m) cs rs
  unfolding session_after
  session_run over = refl
  session_run (next {cs = cs} {rs = rs} s t) =
      session_run t ∙ ap (λ (x : Session). session_after x cs rs) (session_step s)

  -- ---- the call

  -- the model m, reached by the calls before, and its step at the call
  pub record Stepped (m₀ : Model) (before : List Call) (told : List Reply) (c : Call) (r : Reply) : Type 0 where
    pub m : Model
    pub m' : Model
    pub runs : Runs mix m₀ before told m
    pub does : Step mix m c r.answer r.output m'

  stepped :
      (before : List Call) (told : List Reply) → length before ≡ length told →
      (c : Call) (later : List Call) (r : Reply) (rest : List Reply) {m₀ m'' : Model} →
      Runs mix m₀ (before ++ c ∷ later) (told ++ r ∷ rest) m'' → Stepped m₀ before told c r
  stepped [] [] even c later r rest (next {m = m} {m' = m'} s t) = record { m = m; m' = m'; runs = over; does = s }
  stepped [] (r₁ ∷ told) even c later r rest run = absurd (omega (arith, even))
  stepped (c₁ ∷ before) [] even c later r rest run = absurd (omega (arith, even))
  stepped (c₁ ∷ before) (r₁ ∷ told) even c later r rest (next s t) =
      let k = stepped before told (omega (arith, even)) c later r rest t in
      record { m = k.m; m' = k.m'; runs = next s k.runs; does = k.does }

  pub at_call :
      {given : ℕ} {cs : List Call} {rs : List Reply} {m'' : Model} → Runs mix (idle given) cs rs m'' →
      {before : List Call} {told : List Reply} {c : Call} {r : Reply} → Made cs rs before told c r →
      Stepped (idle given) before told c r
  at_call {given} {m'' = m''} runs {before} {told} {c} {r} made =
      stepped before told made.as_many c made.later r made.rest
      (rw (made.calls, made.replies) at runs)

  -- where a session is live after the calls before, the model is live with it and has the mixings that were not spent
  pub stands_at :
      {given : ℕ} {before : List Call} {told : List Reply} {m : Model} → Runs mix (idle given) before told m →
      {key nonce : List ℕ} {ts : List Telegram} → session_of before told ≡ since key nonce ts →
      m ≡ live (given - spent before told) key nonce ts
  stands_at {given} {before} {told} {m} runs same =
      let left : left_of m ≡ given - spent before told = omega (arith, counted_run mix runs) in
      model_is m ∙ (λ i. model_with (left i) ((session_run runs ∙ same) i))
