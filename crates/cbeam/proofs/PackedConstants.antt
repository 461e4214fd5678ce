-- The transposed constant of an odd round, as one word that is added to the first of four.
use Rattle.std.proofs.Common.{◌≡◌, ℕ, zero, suc, ◌+◌, ◌*◌, ◌/◌, ◌%◌, ◌^◌, ◌<◌, ◌≤◌, Bool, T, eqb, List, get_or, sym, refl, ap, ◌∙◌, ap₂, arith, eqb→eq}
use lib.Bits.{bit_xor, xor_zero_r}
use Rattle.cbeam.specs.Bits.{bit}
use Rattle.cbeam.specs.Permutation.{constants, flipped, transposed}
use Rattle.cbeam.specs.Words.{laid, added, Packs}
use Rattle.cbeam.specs.declared.planar.rounds.TheConstants.{ODD_CONSTANTS}
use Rattle.cbeam.proofs.Bitwise.{bit-xor, bit_none}
use Rattle.cbeam.proofs.Computed.{upto, at_upto}
use Rattle.cbeam.proofs.Cells.{same_rows, rows_transposed, cell_transposed, rows_laid, cell_laid, cell_flipped}

-- the bit of row i and column j, at place k of its word, after c is added to the first word
added_bit : (c : ℕ) (q : List ℕ) → c < 2 ^ 64 → (i j k : ℕ) → i < 16 → j < 16 → k ≡ 16 * (i % 4) + j
    → bit_xor (bit (get_or q (i / 4) 0) k) (bit c (16 * i + j)) ≡ bit (get_or (added c q) (i / 4) 0) k
added_bit c q hc i j k hi hj here = at_word (i / 4) refl (omega arith)
  where
    past : 64 ≤ 16 * i + j → (x : ℕ) → bit_xor x (bit c (16 * i + j)) ≡ x
    past h x = ap (bit_xor x) (bit_none c 64 (16 * i + j) hc h) ∙ xor_zero_r x

    at_word : (u : ℕ) → i / 4 ≡ u → u < 4
        → bit_xor (bit (get_or q u 0) k) (bit c (16 * i + j)) ≡ bit (get_or (added c q) u 0) k
    at_word zero e h =
        let same : 16 * i + j ≡ k = omega arith in
        ap (λ n. bit_xor (bit (get_or q 0 0) k) (bit c n)) same ∙ sym (bit-xor (get_or q 0 0) c k)
    at_word (suc zero) e h = past (omega arith) (bit (get_or q 1 0) k)
    at_word (suc (suc zero)) e h = past (omega arith) (bit (get_or q 2 0) k)
    at_word (suc (suc (suc zero))) e h = past (omega arith) (bit (get_or q 3 0) k)
    at_word (suc (suc (suc (suc u)))) e h = absurd (omega arith)

-- the constant of round r on the transposed state
pub added_transposed : (c r : ℕ) (q : List ℕ) → c < 2 ^ 64 → Packs c r
    → transposed (flipped r (transposed (laid q))) ≡ laid (added c q)
added_transposed c r q hc p =
    same_rows (transposed (flipped r (transposed (laid q)))) (laid (added c q))
    (rows_transposed (flipped r (transposed (laid q)))) (rows_laid (added c q))
    (λ i j hi hj.
    cell_transposed (flipped r (transposed (laid q))) i j hi hj
    ∙ cell_flipped r (transposed (laid q)) j i hj
    ∙ ap₂ bit_xor (cell_transposed (laid q) j i hj hi ∙ cell_laid q i j hi hj) (p i j hi hj)
    ∙ added_bit c q hc i j (16 * (i % 4) + j) hi hj refl
    ∙ sym (cell_laid (added c q) i j hi hj))

-- ---- one computed test that a word is a transposed constant

abbrev agrees : ℕ → ℕ → ℕ → ℕ → Bool
agrees c r i j = eqb (bit (get_or (constants r) j 0) i) (bit c (16 * i + j))

abbrev packs : ℕ → ℕ → Bool
packs c r = upto 16 λ i. upto 16 λ j. agrees c r i j

pub packed : (c r : ℕ) → T (packs c r) → (n : ℕ) → n ≡ r → Packs c n
packed c r t n e i j hi hj =
    ap (λ n. bit (get_or (constants n) j 0) i) e
    ∙ eqb→eq (bit (get_or (constants r) j 0) i) (bit c (16 * i + j))
    (at_upto 16 (agrees c r i) (at_upto 16 (λ i. upto 16 (agrees c r i)) t i hi) j hj)

-- the table's constants are those of the odd rounds
pub packed_odd : (k : ℕ) → k < 3 → Packs (get_or ODD_CONSTANTS k 0) (suc (2 * k))
unfolding bit constants
packed_odd zero h = packed _ 1 tt 1 refl
packed_odd (suc zero) h = packed _ 3 tt (suc (2 * 1)) refl
packed_odd (suc (suc zero)) h = packed _ 5 tt (suc (2 * 2)) refl
packed_odd (suc (suc (suc k))) h = absurd (omega arith)
