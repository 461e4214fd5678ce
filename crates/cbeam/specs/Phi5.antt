-- The function φ5 from five bits to one bit, by its polynomial and by its truth table.
use Rattle.std.specs.Prelude.{◌≡◌, ℕ, ◌+◌, ◌*◌, ◌%◌, ◌<◌, List, [], ◌∷◌, map}
use Rattle.std.specs.List.{range_with_len}
use Rattle.cbeam.specs.Bits.{bit}

-- φ5 as a polynomial over the numbers modulo 2
unfoldable pub phi5 : ℕ → ℕ → ℕ → ℕ → ℕ → ℕ
phi5 x0 x1 x2 x3 x4 =
    (x0 * x1 * x3 * x4 + x0 * x2 * x3 + x0 * x1 * x4 + x1 * x2 * x3 + x2 * x3 * x4
    + x0 * x3 + x1 * x3 + x2 * x3 + x2 * x4 + x3 * x4 + x1 + x3 + x4) % 2

-- Its truth table: the value stands at x0 + 2 x1 + 4 x2 + 8 x3 + 16 x4, counted from 0.
abbrev pub phi5_table : List ℕ
phi5_table =
    0 ∷ 0 ∷ 1 ∷ 1 ∷ 0 ∷ 0 ∷ 1 ∷ 1 ∷ 1 ∷ 0 ∷ 1 ∷ 0 ∷ 0 ∷ 0 ∷ 1 ∷ 1
    ∷ 1 ∷ 1 ∷ 0 ∷ 1 ∷ 0 ∷ 0 ∷ 1 ∷ 0 ∷ 1 ∷ 0 ∷ 1 ∷ 0 ∷ 0 ∷ 0 ∷ 1 ∷ 1 ∷ []

-- The polynomial has the truth table's values.
abbrev pub Phi5Agrees : Type 0
Phi5Agrees = map (λ n. phi5 (bit n 0) (bit n 1) (bit n 2) (bit n 3) (bit n 4)) (range_with_len 0 32) ≡ phi5_table

-- r has, at each of its w bits, φ5 of that bit of five numbers.
pub record Phi5Bits (w r x0 x1 x2 x3 x4 : ℕ) : Type 0 where
  pub at : (j : ℕ) → j < w → bit r j ≡ phi5 (bit x0 j) (bit x1 j) (bit x2 j) (bit x3 j) (bit x4 j)
