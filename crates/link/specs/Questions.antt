-- The questions that a call must pass, in their order. Whether the tag is the session's is asked last, in the steps.
use Rattle.std.specs.Prelude.{ℕ, ◌+◌, ◌-◌, Bool, true, false, cond, List, [], ◌∷◌, length, ◌==◌, nat_le}
use Rattle.link.specs.declared.phase.Phase.{Phase}
use Rattle.link.specs.declared.phase.Phase.TheVariants.{Idle, Live}
use Rattle.link.specs.Sessions.{cost}
use Rattle.link.specs.Calls.{Call, Start, Seal, Open, Left, Close}

-- a question: its number, whether the answer is yes, and the values that a refusal tells with the number
pub record Question : Type 0 where
  pub number : ℕ
  pub yes : Bool
  pub values : List ℕ

abbrev pub ask : ℕ → Bool → Question
ask n b = record { number = n; yes = b; values = [] }

-- are the mixings left?
abbrev pub ask_left : (wanted left : ℕ) → Question
ask_left wanted left = record { number = 9; yes = nat_le wanted left; values = wanted ∷ left ∷ [] }

abbrev pub is_live : Phase → Bool
is_live Idle = false
is_live Live = true

abbrev pub is_idle : Phase → Bool
is_idle Idle = true
is_idle Live = false

-- the mixings that a call takes
abbrev pub price : Call → ℕ
price (Start key nonce out) = 3
price (Seal a p out) = cost (length a) (length p)
price (Open a c out) = cost (length a) (length c - 8)
price (Left out) = 0
price (Close out) = 0

-- the questions of a call to an endpoint in some phase with some mixings left
abbrev pub questions : Phase → ℕ → Call → List Question
questions phase left (Start key nonce out) =
    ask 2 (is_idle phase)
    ∷ ask 3 (length key == 16)
    ∷ ask 4 (length nonce == 8)
    ∷ ask_left 3 left
    ∷ []
questions phase left (Seal a p out) =
    ask 1 (is_live phase)
    ∷ ask 5 (nat_le (length a) 65535)
    ∷ ask 6 (nat_le (length p) 65535)
    ∷ ask 8 (nat_le (length p + 8) (length out))
    ∷ ask_left (cost (length a) (length p)) left
    ∷ []
questions phase left (Open a c out) =
    ask 1 (is_live phase)
    ∷ ask 5 (nat_le (length a) 65535)
    ∷ ask 6 (nat_le (length c) 65543)
    ∷ ask 7 (nat_le 8 (length c))
    ∷ ask 8 (nat_le (length c - 8) (length out))
    ∷ ask_left (cost (length a) (length c - 8)) left
    ∷ []
questions phase left (Left out) = []
questions phase left (Close out) = ask 1 (is_live phase) ∷ []

pub data Verdict : Type 0 where
  passed : Verdict
  stopped : (number : ℕ) (values : List ℕ) → Verdict

-- the first question answered no
abbrev pub verdict : List Question → Verdict
verdict [] = passed
verdict (q ∷ qs) = cond q.yes (verdict qs) (stopped q.number q.values)
