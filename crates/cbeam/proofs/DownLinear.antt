-- The linear step down the columns of four words.
use Rattle.std.proofs.Common.{◌≡◌, ℕ, ◌+◌, ◌*◌, ◌/◌, ◌%◌, ◌<◌, List, [], ◌∷◌, map, length, get_or, sym, ap, ◌∙◌, ap₂, arith}
use lib.Bits.{bit_xor, xor_zero_l}
use Rattle.std.specs.List.{fold}
use Rattle.cbeam.specs.Bits.{bit}
use Rattle.cbeam.specs.Permutation.{transposed, linear}
use Rattle.cbeam.specs.Words.{laid}
use Rattle.cbeam.proofs.Bitwise.{bit-xor}
use Rattle.cbeam.proofs.Steps.{linear_below}
use Rattle.cbeam.proofs.Cells.{cell, same_rows, mapped_rows, rows_transposed, column_laid, cell_linear}
use Rattle.cbeam.proofs.Sums.{sum, others}

-- the sum of four words
pub all_four : (q : List ℕ) → length q ≡ 4 → fold bit_xor 0 q ≡ sum (get_or q 0 0) (get_or q 1 0) (get_or q 2 0) (get_or q 3 0)
all_four (a ∷ b ∷ c ∷ d ∷ []) h = ap (λ x. bit_xor (bit_xor (bit_xor x b) c) d) (xor_zero_l a)
all_four [] h = absurd (omega arith)
all_four (a ∷ []) h = absurd (omega arith)
all_four (a ∷ b ∷ []) h = absurd (omega arith)
all_four (a ∷ b ∷ c ∷ []) h = absurd (omega arith)
all_four (a ∷ b ∷ c ∷ d ∷ e ∷ q) h = absurd (omega arith)

-- four words, each with the sum of all added
pub linear_columns : (q r : List ℕ)
    → ((u : ℕ) → u < 4
    → get_or r u 0 ≡ bit_xor (get_or q u 0) (sum (get_or q 0 0) (get_or q 1 0) (get_or q 2 0) (get_or q 3 0)))
    → transposed (laid r) ≡ map linear (transposed (laid q))
linear_columns q r g =
    same_rows (transposed (laid r)) (map linear (transposed (laid q)))
    (rows_transposed (laid r))
    (mapped_rows linear (transposed (laid q)) linear_below (rows_transposed (laid q)))
    (λ i j hi hj.
    let k : ℕ = 16 * (j % 4) + i in
    let e4 : cell (transposed (laid q)) i ((j + 4) % 16) ≡ f ((j / 4 + 1) % 4) k =
    column_laid q i ((j + 4) % 16) hi (omega arith) ∙ ap₂ f (omega arith) (omega arith) in
    let e8 : cell (transposed (laid q)) i ((j + 8) % 16) ≡ f ((j / 4 + 2) % 4) k =
    column_laid q i ((j + 8) % 16) hi (omega arith) ∙ ap₂ f (omega arith) (omega arith) in
    let e12 : cell (transposed (laid q)) i ((j + 12) % 16) ≡ f ((j / 4 + 3) % 4) k =
    column_laid q i ((j + 12) % 16) hi (omega arith) ∙ ap₂ f (omega arith) (omega arith) in
    column_laid r i j hi hj ∙ added_bit (j / 4) k (omega arith) ∙ others (λ u. f u k) (j / 4) (omega arith)
    ∙ sym (cell_linear (transposed (laid q)) (rows_transposed (laid q)) i j hi hj ∙ ap₂ bit_xor (ap₂ bit_xor e4 e8) e12))
  where
    f : ℕ → ℕ → ℕ
    f u k = bit (get_or q u 0) k

    added_bit : (u k : ℕ) → u < 4 → bit (get_or r u 0) k ≡ bit_xor (f u k) (sum (f 0 k) (f 1 k) (f 2 k) (f 3 k))
    added_bit u k h = ap (λ x. bit x k) (g u h) ∙ simp bit-xor
