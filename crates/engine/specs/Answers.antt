-- What an engine answers, and what its bytes become.
use Rattle.std.specs.Prelude.{ℕ, cond, List, [], ◌∷◌, Some, None, Ok, Err, Option, Result, nat_le, nat_lt, slice_index, slice_set}
use Rattle.engine.specs.declared.shortfall.Shortfall.{Shortfall}

-- the byte at one of the 32 places, and nothing at another
abbrev pub byte_at : List ℕ → ℕ → Option ℕ
byte_at xs place = cond (nat_lt place 32) (Some (slice_index xs place)) None

-- the bytes with one of the 32 replaced, and as they were for another place
abbrev pub replaced : List ℕ → ℕ → ℕ → List ℕ
replaced xs place value = cond (nat_lt place 32) (slice_set xs place value) xs

-- the bytes of an engine, mixed where a mixing is left, and as they are where none is
abbrev pub mixed : {E : Type 0} → (List ℕ → List ℕ) → (E → ℕ) → (E → List ℕ) → E → List ℕ
mixed mixing budget bytes e = cond (nat_le 1 (budget e)) (mixing (bytes e)) (bytes e)

-- An answer: granted, or refused with a number and the values that are told with it.
pub data Answer : Type 0 where
  granted : Answer
  refused : ℕ → List ℕ → Answer

-- Too few mixings are refusal 9, told with the mixings wanted and the mixings left.
abbrev pub too_few : ℕ → ℕ → Answer
too_few wanted left = refused 9 (wanted ∷ left ∷ [])

-- what a result says
abbrev pub said : Result (Unit {0}) Shortfall → Answer
said (Ok done) = granted
said (Err short) = too_few short.wanted short.left

-- the answer where so many mixings are wanted and so many are left
abbrev pub afforded : ℕ → ℕ → Answer
afforded wanted left = cond (nat_le wanted left) granted (too_few wanted left)
