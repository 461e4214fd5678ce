-- A state by its bits: what each step does to the bit in row i and column j, and that equal bits make equal states.
use Rattle.std.proofs.Common.{◌≡◌, ℕ, ◌+◌, ◌*◌, ◌/◌, ◌%◌, ◌^◌, ◌<◌, List, map, length, get_or, sym, ap, ◌∙◌, subst, zero-add, arith, ext_get_or}
use lib.Bits.{bit_xor}
use Rattle.std.specs.List.{range_with_len}
use Rattle.std.proofs.lemmas.List.FromFn.{length-map-range_with_len, get_or-map-range_with_len}
use Rattle.std.proofs.lemmas.List.{get_or-map, length-map}
use Rattle.cbeam.specs.Bits.{bit}
use Rattle.cbeam.specs.Permutation.{constants, flipped_row, flipped, transposed_row, transposed}
use Rattle.cbeam.specs.Permutation.{linear_at, linear, nonlinear_at, nonlinear}
use Rattle.cbeam.specs.Orders.{row_laid}
use Rattle.cbeam.specs.Words.{lane, laid_row, laid}
use Rattle.cbeam.proofs.Bitwise.{bit_below, bit-xor, word_below, bit_word, same_bits}
use Rattle.cbeam.proofs.Lanes.{lane_below, lane_bit}
use Rattle.cbeam.proofs.Steps.{linear_bit, nonlinear_bit}

-- the bit in row i and column j
abbrev pub cell : List ℕ → ℕ → ℕ → ℕ
cell s i j = bit (get_or s i 0) j

-- sixteen rows of sixteen bits
pub record Rows (s : List ℕ) : Type 0 where
  pub count : length s ≡ 16
  pub below : (i : ℕ) → i < 16 → get_or s i 0 < 2 ^ 16

pub same_rows : (s t : List ℕ) → Rows s → Rows t
    → ((i j : ℕ) → i < 16 → j < 16 → cell s i j ≡ cell t i j) → s ≡ t
same_rows s t hs ht h =
    ext_get_or 0 s t (hs.count ∙ sym ht.count)
    (λ i m. let l : i < 16 = omega arith in same_bits 16 (get_or s i 0) (get_or t i 0) (hs.below i l) (ht.below i l) (λ j m. h i j l m))

-- ---- a state made row by row

pub made_row : (f : ℕ → ℕ) (i : ℕ) → i < 16 → get_or (map f (range_with_len 0 16)) i 0 ≡ f i
made_row f i h = get_or-map-range_with_len f 0 16 i i 0 h (zero-add i)

made_rows : (f : ℕ → ℕ) → ((i : ℕ) → f i < 2 ^ 16) → Rows (map f (range_with_len 0 16))
made_rows f h = record {
  count = length-map-range_with_len f 0 16;
  below = λ i l. subst (λ (x : ℕ). x < 2 ^ 16) (sym (made_row f i l)) (h i);
}

-- ---- each row changed by a function

mapped_row : (f : ℕ → ℕ) (s : List ℕ) → length s ≡ 16 → (i : ℕ) → i < 16 → get_or (map f s) i 0 ≡ f (get_or s i 0)
mapped_row f s hs i h = get_or-map f s i 0 0 (omega (arith, hs))

pub mapped_rows : (f : ℕ → ℕ) (s : List ℕ) → ((x : ℕ) → f x < 2 ^ 16) → Rows s → Rows (map f s)
mapped_rows f s b hs = record {
  count = simp length-map hs.count;
  below = λ i l. subst (λ (x : ℕ). x < 2 ^ 16) (sym (mapped_row f s hs.count i l)) (b (get_or s i 0));
}

-- a state whose every row is g of f of that row of s
pub mapped_twice : (g f : ℕ → ℕ) (s t : List ℕ) → length s ≡ 16 → length t ≡ 16
    → ((k : ℕ) → k < 16 → get_or t k 0 ≡ g (f (get_or s k 0))) → t ≡ map g (map f s)
mapped_twice g f s t hs ht h =
    let l : length (map f s) ≡ 16 = simp length-map hs in
    ext_get_or 0 t (map g (map f s)) (ht ∙ sym (simp length-map hs))
    (λ k m.
    let b : k < 16 = omega arith in
    h k b ∙ sym (mapped_row g (map f s) l k b ∙ ap g (mapped_row f s hs k b)))

-- ---- transposition

pub rows_transposed : (s : List ℕ) → Rows (transposed s)
unfolding transposed
rows_transposed s =
    made_rows (transposed_row s) (λ i. word_below 16 (λ j. bit (get_or s j 0) i) (λ j m. bit_below (get_or s j 0) i))

pub cell_transposed : (s : List ℕ) (i j : ℕ) → i < 16 → j < 16 → cell (transposed s) i j ≡ cell s j i
unfolding transposed
cell_transposed s i j hi hj =
    ap (λ x. bit x j) (made_row (transposed_row s) i hi)
    ∙ bit_word 16 (λ j. bit (get_or s j 0) i) (λ k m. bit_below (get_or s k 0) i) j hj

-- ---- the rows of four words

pub rows_laid : (q : List ℕ) → Rows (laid q)
unfolding laid
rows_laid q = made_rows (laid_row q) (λ i. lane_below (get_or q (i / 4) 0) (i % 4))

pub cell_laid : (q : List ℕ) (i j : ℕ) → i < 16 → j < 16 → cell (laid q) i j ≡ bit (get_or q (i / 4) 0) (16 * (i % 4) + j)
cell_laid q i j hi hj = ap (λ x. bit x j) (row_laid q i hi) ∙ lane_bit (get_or q (i / 4) 0) (i % 4) j hj

-- the bit in column i and row j of four words
pub column_laid : (q : List ℕ) (i j : ℕ) → i < 16 → j < 16
    → cell (transposed (laid q)) i j ≡ bit (get_or q (j / 4) 0) (16 * (j % 4) + i)
column_laid q i j hi hj = cell_transposed (laid q) i j hi hj ∙ cell_laid q j i hj hi

-- four words whose every row is g of f of that row of q
pub along_rows : (g f : ℕ → ℕ) (q r : List ℕ)
    → ((u : ℕ) → u < 4 → (m : ℕ) → m < 4 → lane (get_or r u 0) m ≡ g (f (lane (get_or q u 0) m)))
    → laid r ≡ map g (map f (laid q))
along_rows g f q r h =
    mapped_twice g f (laid q) (laid r) (rows_laid q).count (rows_laid r).count
    (λ i hi.
    row_laid r i hi ∙ h (i / 4) (omega arith) (i % 4) (omega arith) ∙ ap (λ x. g (f x)) (sym (row_laid q i hi)))

-- ---- the steps of a round

pub cell_flipped : (r : ℕ) (s : List ℕ) (i j : ℕ) → i < 16
    → cell (flipped r s) i j ≡ bit_xor (cell s i j) (cell (constants r) i j)
unfolding flipped
cell_flipped r s i j hi =
    ap (λ x. bit x j) (made_row (flipped_row r s) i hi) ∙ bit-xor (get_or s i 0) (get_or (constants r) i 0) j

pub cell_linear : (s : List ℕ) → Rows s → (i j : ℕ) → i < 16 → j < 16
    → cell (map linear s) i j ≡ linear_at (get_or s i 0) j
cell_linear s hs i j hi hj = ap (λ x. bit x j) (mapped_row linear s hs.count i hi) ∙ linear_bit (get_or s i 0) j hj

pub cell_nonlinear : (s : List ℕ) → Rows s → (i j : ℕ) → i < 16 → j < 16
    → cell (map nonlinear s) i j ≡ nonlinear_at (get_or s i 0) j
cell_nonlinear s hs i j hi hj =
    ap (λ x. bit x j) (mapped_row nonlinear s hs.count i hi) ∙ nonlinear_bit (get_or s i 0) j hj
