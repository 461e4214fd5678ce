-- The ends stay in step.
use Rattle.std.proofs.Common.{◌≡◌, ℕ, ◌+◌, ◌-◌, ◌≤◌, List, [], ◌∷◌, ◌++◌, length, take, drop, sym, refl, ap, ◌∙◌, subst, arith}
use Rattle.std.proofs.lemmas.Bool.{leb-true, le-leb}
use Rattle.std.proofs.lemmas.List.{take_at}
use Rattle.engine.specs.States.{Mixes, Agree}
use Rattle.link.specs.declared.phase.Phase.TheVariants.{Live}
use Rattle.link.specs.Sessions.{cost, Telegram, session_state, sealing, sealing_at}
use Rattle.link.specs.Calls.{Call, Seal, Open, CallBytes, Answer, sealed, opened, Reply}
use Rattle.link.specs.Questions.{questions, passed}
use Rattle.link.specs.Steps.{reply}
use Rattle.link.proofs.Sealings.{length-sealing}
use Rattle.link.proofs.SessionStates.{SessionBytes, telegrams_more, sealing_same}
use Rattle.rehearsal.specs.Turns.{AllBytes}
use Rattle.rehearsal.specs.Model.{Model, idle, live, asked, SealsTo, telegram}
use Rattle.rehearsal.specs.Model.{Step, refuse, start, seal, accept, reject, tell, close, Runs, over, next}
use Rattle.rehearsal.specs.Histories.{Session, since, next_session, session_of}
use Rattle.rehearsal.specs.Laws.{Understands, InStep, Rehearsed}
use Rattle.rehearsal.proofs.Verdicts.{all_yes, yes_all}
use Rattle.rehearsal.proofs.Single.{single}
use Rattle.rehearsal.proofs.Simulation.{ModelBytes}
use Rattle.rehearsal.proofs.Points.{session_more, at_call, stands_at}

module _ (mix : List ℕ → List ℕ) where
  -- the telegrams of a run are bytes
  bytes_step :
      {m : Model} {c : Call} {w : Answer} {o : List ℕ} {m' : Model} → Step mix m c w o m' →
      ModelBytes m → CallBytes c → ModelBytes m'
  bytes_step (refuse e) b cb = b
  bytes_step (start e) b cb = (cb.0, cb.1, tt)
  bytes_step (seal {ts = ts} {a = a} {p = p} e) b cb =
      (b.0, b.1, telegrams_more ts (telegram a p) b.2 cb.0 cb.1)
  bytes_step (accept {ts = ts} {a = a} p e h) b cb =
      (b.0, b.1, telegrams_more ts (telegram a p) b.2 cb.0 h.0)
  bytes_step (reject e never) b cb = b
  bytes_step tell b cb = b
  bytes_step close b cb = tt

  bytes_run :
      {m : Model} {cs : List Call} {rs : List Reply} {m' : Model} → Runs mix m cs rs m' →
      ModelBytes m → AllBytes cs → ModelBytes m'
  bytes_run over b ab = b
  bytes_run (next s t) b ab = bytes_run t (bytes_step s b ab.0) ab.1

bytes_before :
    (before : List Call) (c : Call) (later : List Call) → AllBytes (before ++ c ∷ later) → AllBytes before × CallBytes c
bytes_before [] c later b = (tt, b.0)
bytes_before (x ∷ before) c later b = let r = bytes_before before c later b.1 in ((b.0, r.0), r.1)

-- what an accepted seal tells, and what it had passed
record Sealing
    (mix : List ℕ → List ℕ) (left : ℕ) (key nonce : List ℕ) (ts : List Telegram) (a p out : List ℕ) (n : ℕ) (o : List ℕ)
    : Type 0 where
  tells : n ≡ length p + 8
  holds : o ≡ sealing mix key nonce ts a p ++ drop (length p + 8) out
  passes : asked (live left key nonce ts) (Seal a p out) ≡ passed

module _ (mix : List ℕ → List ℕ) {left : ℕ} {key nonce : List ℕ} {ts : List Telegram} where
  sealed_so :
      {a p out : List ℕ} {w : Answer} {o : List ℕ} {m : Model} →
      Step mix (live left key nonce ts) (Seal a p out) w o m →
      (n : ℕ) → w ≡ sealed n → Sealing mix left key nonce ts a p out n o
  sealed_so (refuse e) n h = absurd (let z : ◌≡◌ {A = ℕ} 0 1 = cc in omega arith)
  sealed_so (seal e) n h = record { tells = cc; holds = refl; passes = e }

  -- an opening of a message's sealed bytes, with room and mixings for it, gives the message
  opens_to :
      (a p c out : List ℕ) → SealsTo mix key nonce ts a c p →
      length a ≤ 65535 → length p ≤ 65535 → length p ≤ length out → cost (length a) (length p) ≤ left →
      (r : Reply) {m : Model} → Step mix (live left key nonce ts) (Open a c out) r.answer r.output m →
      r ≡ reply (opened (length p)) (p ++ drop (length p) out)
  unfolding sealing
  opens_to a p c out h la lp room enough r does =
      let long : length c ≡ length p + 8 =
      omega (arith, ap length h.1, length-sealing mix (session_state mix key nonce ts) a p) in
      let less : length c - 8 ≡ length p = omega arith in
      let asks = yes_all (questions Live left (Open a c out)) (
        refl,
        (
          le-leb _ _ la,
          (
            le-leb _ _ (omega arith),
            (
              le-leb _ _ (omega arith),
              (le-leb _ _ (omega arith), (le-leb _ _ (rw less enough), tt)),
            ),
          ),
        ),
      ) in
      let same = single mix does (accept p asks h) in
      λ i. record { answer = same.0 i; output = same.1 i }

pub understands :
    (mix₁ mix₂ : List ℕ → List ℕ) → Mixes mix₁ → Agree mix₁ mix₂ →
    {given₁ given₂ : ℕ} {cs₁ : List Call} {rs₁ : List Reply} {cs₂ : List Call} {rs₂ : List Reply} → AllBytes cs₁ →
    {m₁ m₂ : Model} → Runs mix₁ (idle given₁) cs₁ rs₁ m₁ → Runs mix₂ (idle given₂) cs₂ rs₂ m₂ →
    Understands cs₁ rs₁ given₂ cs₂ rs₂
unfolding sealing
understands mix₁ mix₂ M agree ab run₁ run₂ before₁ told₁ a p out₁ o n at₁ before₂ told₂ out₂ r at₂ key nonce ts here₁
    here₂ room enough =
    let s₁ = at_call mix₁ run₁ at₁ in
    let s₂ = at_call mix₂ run₂ at₂ in
    let live₁ = stands_at mix₁ s₁.runs here₁ in
    let does₁ = rw live₁ at s₁.does in
    let does₂ = rw (stands_at mix₂ s₂.runs here₂) at s₂.does in
    let b = bytes_before before₁ (Seal a p out₁) at₁.later (subst AllBytes at₁.calls ab) in
    let sb : SessionBytes key nonce ts = subst ModelBytes live₁ (bytes_run mix₁ s₁.runs tt b.0) in
    let did = sealed_so mix₁ does₁ n refl in
    let v = session_state mix₁ key nonce ts in
    let is : take n o ≡ sealing mix₁ key nonce ts a p =
    rw did.holds (take_at (sealing_at mix₁ v a p) _ n (length-sealing mix₁ v a p ∙ sym did.tells)) in
    let seals : SealsTo mix₂ key nonce ts a (take n o) p =
    (b.1.1, sym (is ∙ sealing_same mix₁ M mix₂ agree key nonce ts a p sb b.1.0 b.1.1)) in
    let asked₁ = all_yes (questions Live _ (Seal a p out₁)) did.passes in
    let opens : r ≡ reply (opened (length p)) (p ++ drop (length p) out₂) =
    opens_to mix₂ a p (take n o) out₂ seals (leb-true _ _ asked₁.1.0) (leb-true _ _ asked₁.1.1.0) room
    (omega arith) r does₂ in
    let with_one : List ℕ → Session = λ q. since key nonce (ts ++ telegram a q ∷ []) in
    let again : session_of (before₂ ++ Open a (take n o) out₂ ∷ []) (told₂ ++ r ∷ []) ≡ with_one p =
    session_more before₂ told₂ at₂.as_many (Open a (take n o) out₂) r here₂
    ∙ ap (λ (x : Reply). next_session (since key nonce ts) (Open a (take n o) out₂) x.answer x.output) opens
    ∙ ap with_one (take_at p (drop (length p) out₂) (length p) refl) in
    (opens, again ∙ sym (session_more before₁ told₁ at₁.as_many (Seal a p out₁) (reply (sealed n) o) here₁))

pub in_step :
    (mix₁ mix₂ : List ℕ → List ℕ) {given₁ given₂ : ℕ}
    {cs₁ : List Call} {rs₁ : List Reply} {cs₂ : List Call} {rs₂ : List Reply} →
    Rehearsed mix₁ given₁ cs₁ rs₁ → Rehearsed mix₂ given₂ cs₂ rs₂ → InStep mix₁ mix₂ given₁ given₂ cs₁ rs₁ cs₂ rs₂
in_step mix₁ mix₂ h₁ h₂ = record {
  second_understands = λ agree. understands mix₁ mix₂ h₁.mixes agree h₁.inputs h₁.runs h₂.runs;
  first_understands = λ agree.
      understands mix₂ mix₁ h₂.mixes (λ xs s. sym (agree xs s)) h₂.inputs h₂.runs h₁.runs;
}
