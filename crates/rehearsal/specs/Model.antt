-- The reference model: a plain machine that knows a key, a nonce and the telegrams accepted, and no bytes of state.
-- Its sealed bytes follow these by the mixing function.
use Rattle.std.specs.Prelude.{◌≡◌, ℕ, ◌+◌, ◌-◌, List, [], ◌∷◌, ◌++◌, length, drop}
use Rattle.engine.specs.States.{Bytes}
use Rattle.link.specs.declared.phase.Phase.{Phase}
use Rattle.link.specs.declared.phase.Phase.TheVariants.{Idle, Live}
use Rattle.link.specs.Blocks.{zeros}
use Rattle.link.specs.Sessions.{cost, Telegram, sealing, session_state}
use Rattle.link.specs.Calls.{Call, Start, Seal, Open, Left, Close, lent, Reply}
use Rattle.link.specs.Calls.{Answer, started, sealed, opened, mixings_left, closed, refused}
use Rattle.link.specs.Questions.{questions, Verdict, passed, stopped, verdict}
use Rattle.link.specs.Steps.{View}

pub data Model : Type 0 where
  idle : (left : ℕ) → Model
  live : (left : ℕ) (key nonce : List ℕ) (telegrams : List Telegram) → Model

abbrev pub phase_of : Model → Phase
phase_of (idle left) = Idle
phase_of (live left key nonce ts) = Live

abbrev pub left_of : Model → ℕ
left_of (idle left) = left
left_of (live left key nonce ts) = left

-- what the questions that come before the tag's, put to the model, come to
abbrev pub asked : Model → Call → Verdict
asked m c = verdict (questions (phase_of m) (left_of m) c)

-- p is a message, and after these telegrams and with the associated data a its sealed bytes are c
abbrev pub SealsTo :
    (List ℕ → List ℕ) → (key nonce : List ℕ) → List Telegram → (a c p : List ℕ) → Type 0
SealsTo mix key nonce ts a c p = Bytes p × (sealing mix key nonce ts a p ≡ c)

abbrev pub telegram : List ℕ → List ℕ → Telegram
telegram a p = record { aad = a; message = p }

-- one call: the model before it, the call, the answer, the output after it, the model after it
pub data Step (mix : List ℕ → List ℕ) : Model → Call → Answer → List ℕ → Model → Type 0 where
  refuse : {m : Model} {c : Call} {number : ℕ} {values : List ℕ} →
      asked m c ≡ stopped number values →
      Step mix m c (refused number values) (lent c) m
  start : {left : ℕ} {key nonce out : List ℕ} →
      asked (idle left) (Start key nonce out) ≡ passed →
      Step mix (idle left) (Start key nonce out) started out (live (left - 3) key nonce [])
  seal : {left : ℕ} {key nonce : List ℕ} {ts : List Telegram} {a p out : List ℕ} →
      asked (live left key nonce ts) (Seal a p out) ≡ passed →
      Step mix (live left key nonce ts) (Seal a p out)
      (sealed (length p + 8)) (sealing mix key nonce ts a p ++ drop (length p + 8) out)
      (live (left - cost (length a) (length p)) key nonce (ts ++ telegram a p ∷ []))
  accept : {left : ℕ} {key nonce : List ℕ} {ts : List Telegram} {a c out : List ℕ} (p : List ℕ) →
      asked (live left key nonce ts) (Open a c out) ≡ passed →
      SealsTo mix key nonce ts a c p →
      Step mix (live left key nonce ts) (Open a c out)
      (opened (length p)) (p ++ drop (length p) out)
      (live (left - cost (length a) (length p)) key nonce (ts ++ telegram a p ∷ []))
  reject : {left : ℕ} {key nonce : List ℕ} {ts : List Telegram} {a c out : List ℕ} →
      asked (live left key nonce ts) (Open a c out) ≡ passed →
      ((p : List ℕ) → SealsTo mix key nonce ts a c p → ⊥) →
      Step mix (live left key nonce ts) (Open a c out)
      (refused 10 []) (zeros (length c - 8) ++ drop (length c - 8) out)
      (live (left - cost (length a) (length c - 8)) key nonce ts)
  tell : {m : Model} {out : List ℕ} → Step mix m (Left out) (mixings_left (left_of m)) out m
  close : {left : ℕ} {key nonce : List ℕ} {ts : List Telegram} {out : List ℕ} →
      Step mix (live left key nonce ts) (Close out) closed out (idle left)

-- a list of calls, one after another
pub data Runs (mix : List ℕ → List ℕ) : Model → List Call → List Reply → Model → Type 0 where
  over : {m : Model} → Runs mix m [] [] m
  next : {m m' m'' : Model} {c : Call} {cs : List Call} {r : Reply} {rs : List Reply} →
      Step mix m c r.answer r.output m' → Runs mix m' cs rs m'' → Runs mix m (c ∷ cs) (r ∷ rs) m''

-- an endpoint that stands where the model stands; an idle one may hold any bytes
abbrev pub shown : (List ℕ → List ℕ) → Model → List ℕ → View
shown mix (idle left) bytes = record { phase = Idle; bytes = bytes; left = left }
shown mix (live left key nonce ts) bytes = record { phase = Live; bytes = session_state mix key nonce ts; left = left }
