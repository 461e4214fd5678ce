-- What holds of every list of calls on new endpoints.
use Rattle.std.specs.Prelude.{◌≡◌, ℕ, ◌+◌, ◌-◌, ◌≤◌, List, [], ◌∷◌, ◌++◌, length, take, drop, ◌≢◌}
use Rattle.engine.specs.States.{Mixes, Agree}
use Rattle.link.specs.declared.phase.Phase.TheVariants.{Live}
use Rattle.link.specs.Sessions.{cost, Telegram}
use Rattle.link.specs.Calls.{Call, Seal, Open, sealed, opened, refused, Reply}
use Rattle.link.specs.Questions.{questions, passed, verdict}
use Rattle.link.specs.Steps.{View, reply}
use Rattle.rehearsal.specs.Turns.{AllBytes}
use Rattle.rehearsal.specs.Model.{Model, idle, SealsTo, Runs, shown}
use Rattle.rehearsal.specs.Histories.{since, session_of, spent, Made}

-- Calls on a new endpoint that was given some mixings, their replies, and the endpoint then: every answer and output is
-- the model's, the model allows no other, and the endpoint stands where the model stands.
pub record Modelled (mix : List ℕ → List ℕ) (given : ℕ) (cs : List Call) (rs : List Reply) (e : View) : Type 0 where
  pub model : Model
  pub bytes : List ℕ
  pub runs : Runs mix (idle given) cs rs model
  pub only : (rs' : List Reply) (m : Model) → Runs mix (idle given) cs rs' m → (rs' ≡ rs) × (m ≡ model)
  pub stands : e ≡ shown mix model bytes

-- the reply to an opening of c that every question but the tag's lets through
pub record OpensRight
    (mix : List ℕ → List ℕ) (key nonce : List ℕ) (ts : List Telegram) (a c out : List ℕ) (r : Reply) : Type 0 where
  -- it is refused exactly when no message has c as its sealed bytes
  pub where_none : ((p : List ℕ) → SealsTo mix key nonce ts a c p → ⊥) → r.answer ≡ refused 10 []
  pub none_where : r.answer ≡ refused 10 [] → (p : List ℕ) → SealsTo mix key nonce ts a c p → ⊥
  -- otherwise it gives the one that has them, and every other message has others
  pub otherwise : (r.answer ≢ refused 10 []) →
      (p : List ℕ) × SealsTo mix key nonce ts a c p × (r ≡ reply (opened (length p)) (p ++ drop (length p) out))
      × ((q : List ℕ) → (q ≢ p) → SealsTo mix key nonce ts a c q → ⊥)

-- openings are exact
abbrev pub Exact : (mix : List ℕ → List ℕ) (given : ℕ) → List Call → List Reply → Type 0
Exact mix given cs rs =
    (before : List Call) (told : List Reply) (a c out : List ℕ) (r : Reply) →
    Made cs rs before told (Open a c out) r →
    (key nonce : List ℕ) (ts : List Telegram) → session_of before told ≡ since key nonce ts →
    verdict (questions Live (given - spent before told) (Open a c out)) ≡ passed →
    OpensRight mix key nonce ts a c out r

-- mixings are conserved
abbrev pub Conserved : (given : ℕ) → List Call → List Reply → (left : ℕ) → Type 0
Conserved given cs rs left = given ≡ left + spent cs rs

-- Where one end has sealed a telegram, the other opens just those sealed bytes with the same data, has room and mixings
-- for it, and both were started alike before and have accepted the same telegrams since: the opening gives the message,
-- and both have accepted the same telegrams again.
abbrev pub Understands :
    (cs₁ : List Call) (rs₁ : List Reply) (given₂ : ℕ) (cs₂ : List Call) (rs₂ : List Reply) → Type 0
Understands cs₁ rs₁ given₂ cs₂ rs₂ =
    (before₁ : List Call) (told₁ : List Reply) (a p out₁ o : List ℕ) (n : ℕ) →
    Made cs₁ rs₁ before₁ told₁ (Seal a p out₁) (reply (sealed n) o) →
    (before₂ : List Call) (told₂ : List Reply) (out₂ : List ℕ) (r : Reply) →
    Made cs₂ rs₂ before₂ told₂ (Open a (take n o) out₂) r →
    (key nonce : List ℕ) (ts : List Telegram) →
    session_of before₁ told₁ ≡ since key nonce ts → session_of before₂ told₂ ≡ since key nonce ts →
    length p ≤ length out₂ → spent before₂ told₂ + cost (length a) (length p) ≤ given₂ →
    (r ≡ reply (opened (length p)) (p ++ drop (length p) out₂))
    × (session_of (before₂ ++ Open a (take n o) out₂ ∷ []) (told₂ ++ r ∷ [])
    ≡ session_of (before₁ ++ Seal a p out₁ ∷ []) (told₁ ++ reply (sealed n) o ∷ []))

-- the ends stay in step, whichever seals, where the two mixing functions agree on states
pub record InStep
    (mix₁ mix₂ : List ℕ → List ℕ) (given₁ given₂ : ℕ)
    (cs₁ : List Call) (rs₁ : List Reply) (cs₂ : List Call) (rs₂ : List Reply) : Type 0 where
  pub second_understands : Agree mix₁ mix₂ → Understands cs₁ rs₁ given₂ cs₂ rs₂
  pub first_understands : Agree mix₁ mix₂ → Understands cs₂ rs₂ given₁ cs₁ rs₁

-- calls on a new endpoint whose inputs are bytes, their replies, and the model that they lead to
pub record Rehearsed (mix : List ℕ → List ℕ) (given : ℕ) (cs : List Call) (rs : List Reply) : Type 0 where
  pub mixes : Mixes mix
  pub inputs : AllBytes cs
  pub model : Model
  pub runs : Runs mix (idle given) cs rs model

-- calls that stay in step with those of any other endpoint
abbrev pub InStepWithAny : (List ℕ → List ℕ) → ℕ → List Call → List Reply → Type 0
InStepWithAny mix₁ given₁ cs₁ rs₁ =
    (mix₂ : List ℕ → List ℕ) (given₂ : ℕ) (cs₂ : List Call) (rs₂ : List Reply) →
    Rehearsed mix₂ given₂ cs₂ rs₂ → InStep mix₁ mix₂ given₁ given₂ cs₁ rs₁ cs₂ rs₂
