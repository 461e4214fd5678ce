-- Bytes and states stay bytes and states.
use Rattle.std.proofs.Common.{ℕ, zero, suc, ◌<◌, List, [], ◌∷◌, ◌++◌, take, set, replicate, refl, ◌∙◌, arith, length-set}
use Rattle.std.proofs.lemmas.Grind.{common_steps}
use Rattle.engine.specs.States.{State, Bytes}

pub bytes_none : Bytes []
bytes_none k = omega arith

pub bytes_cons : (x : ℕ) (xs : List ℕ) → x < 256 → Bytes xs → Bytes (x ∷ xs)
bytes_cons x xs l h zero = l
bytes_cons x xs l h (suc k) = h k

pub bytes_zeros : (n : ℕ) → Bytes (replicate n 0)
bytes_zeros n k = grind (arith, common_steps)

pub bytes_set : (xs : List ℕ) (i b : ℕ) → Bytes xs → b < 256 → Bytes (set xs i b)
bytes_set [] i b h l k = h k
bytes_set (x ∷ xs) zero b h l zero = l
bytes_set (x ∷ xs) zero b h l (suc k) = h (suc k)
bytes_set (x ∷ xs) (suc i) b h l zero = h zero
bytes_set (x ∷ xs) (suc i) b h l (suc k) = bytes_set xs i b (λ j. h (suc j)) l k

pub bytes_append : (xs ys : List ℕ) → Bytes xs → Bytes ys → Bytes (xs ++ ys)
bytes_append xs ys h l k = grind (arith, common_steps, h, l)

pub bytes_take : (n : ℕ) (xs : List ℕ) → Bytes xs → Bytes (take n xs)
bytes_take n xs h k = let a = h k in grind (arith, common_steps)

pub state_set : (xs : List ℕ) (i b : ℕ) → State xs → b < 256 → State (set xs i b)
state_set xs i b s l = record { long = length-set xs i b ∙ s.long; small = bytes_set xs i b s.small l }

pub state_zeros : State (replicate 32 0)
state_zeros = record { long = refl; small = bytes_zeros 32 }
