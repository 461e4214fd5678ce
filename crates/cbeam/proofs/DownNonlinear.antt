-- The nonlinear step down the columns of four words: each word with the word above it.
use Rattle.std.proofs.Common.{◌≡◌, ℕ, ◌+◌, ◌-◌, ◌*◌, ◌/◌, ◌%◌, ◌^◌, ◌<◌, ◌≤◌, min, Bool, T, eqb, List, map, get_or, sym, ap, ◌∙◌, ap₂, arith, eqb→eq}
use native.Mathlib.Decide.{dec_lt}
use lib.Bits.{bit_xor, xor_zero_r}
use Rattle.std.proofs.lemmas.Nat.Bits.{bit_at_cat_low, bit_at_cat_high}
use Rattle.cbeam.specs.Bits.{bit}
use Rattle.cbeam.specs.Phi5.{Phi5Bits}
use Rattle.cbeam.specs.Permutation.{transposed, nonlinear}
use Rattle.cbeam.specs.Words.{laid, pair_bit, DownColumns}
use Rattle.cbeam.proofs.Bitwise.{bit-xor, bit-shr, bit_none, shl_in, shl_out}
use Rattle.cbeam.proofs.Cells.{cell, same_rows, mapped_rows, rows_transposed, column_laid, cell_nonlinear}
use Rattle.cbeam.proofs.Computed.{upto, at_upto}
use Rattle.cbeam.proofs.Steps.{nonlinear_below}

-- ---- one word and the word above it

pair_low : (x above i : ℕ) → i < 64 → pair_bit x above i ≡ bit above i
unfolding pair_bit bit
pair_low x above i l = bit_at_cat_low x 64 above i l

pair_high : (x above i : ℕ) → above < 2 ^ 64 → pair_bit x above (64 + i) ≡ bit x i
unfolding pair_bit bit
pair_high x above i h = bit_at_cat_high x 64 above (64 + i) h (omega arith) ∙ ap (bit x) (omega arith)

-- the 64 bits that begin n bits below the top of `above`
abbrev joined : ℕ → ℕ → ℕ → ℕ
joined n x above = bit_xor (x * 2 ^ n % 2 ^ 64) (above / 2 ^ (64 - n))

joined_bit : (n x above k : ℕ) → n ≤ 64 → above < 2 ^ 64 → k < 64
    → bit (joined n x above) k ≡ pair_bit x above ((64 - n) + k)
joined_bit n x above k hn h l =
    bit-xor (x * 2 ^ n % 2 ^ 64) (above / 2 ^ (64 - n)) k
    ∙ elim (dec_lt k n) [
      | yes i ↦
          ap₂ bit_xor (shl_out x n k i l) (bit-shr above (64 - n) k)
          ∙ sym (pair_low x above ((64 - n) + k) (omega arith))
      | no i ↦
          let e : (64 - n) + k ≡ 64 + (k - n) = omega arith in
          let none : bit above ((64 - n) + k) ≡ 0 = bit_none above 64 ((64 - n) + k) h (omega arith) in
          ap₂ bit_xor (shl_in x n k (omega arith) l) (bit-shr above (64 - n) k ∙ none)
          ∙ xor_zero_r (bit x (k - n))
          ∙ sym (ap (pair_bit x above) e ∙ pair_high x above (k - n) h)
    ]

pub down_columns : (x above r : ℕ) → above < 2 ^ 64
    → Phi5Bits 64 r x (joined 16 x above) (joined 32 x above) (joined 48 x above) above
    → DownColumns x above r
down_columns x above r h g k l =
    let e0 = pair_high x above k h in
    let e1 = joined_bit 16 x above k (omega arith) h l in
    let e2 = joined_bit 32 x above k (omega arith) h l in
    let e3 = joined_bit 48 x above k (omega arith) h l in
    let e4 = pair_low x above k l in
    g.at k l ∙ (cc (e0, e1, e2, e3, e4))

-- ---- four words

-- words of 64 bits
abbrev Words : List ℕ → Type 0
Words q = (u : ℕ) → u < 4 → get_or q u 0 < 2 ^ 64

-- d rows up from row j, past the first row of its word, is a row of the word above: a test at every j and d
abbrev lies_up : ℕ → ℕ → Bool
lies_up j d = eqb ((j + (16 - d)) % 16 / 4) ((j / 4 + 3 * min 1 (d - j % 4)) % 4)

all_lie : T (upto 16 λ j. upto 5 λ d. lies_up j d)
all_lie = tt

word_up : (d j b : ℕ) → d ≤ 4 → j < 16 → min 1 (d - j % 4) ≡ b → (j + (16 - d)) % 16 / 4 ≡ (j / 4 + 3 * b) % 4
word_up d j b hd hj e =
    eqb→eq ((j + (16 - d)) % 16 / 4) ((j / 4 + 3 * min 1 (d - j % 4)) % 4)
    (at_upto 5 (lies_up j) (at_upto 16 (λ j. upto 5 (lies_up j)) all_lie j hj) d (omega arith))
    ∙ ap (λ b. (j / 4 + 3 * b) % 4) e

-- the bits of word j / 4 and the word above it, as DownColumns counts them
abbrev up : List ℕ → ℕ → ℕ → ℕ
up q j = pair_bit (get_or q (j / 4) 0) (get_or q ((j / 4 + 3) % 4) 0)

column_bit : (q : List ℕ) (d i j : ℕ) → Words q → d ≤ 4 → i < 16 → j < 16
    → up q j (16 * (4 - d) + (16 * (j % 4) + i)) ≡ cell (transposed (laid q)) i ((j + (16 - d)) % 16)
column_bit q d i j hq hd hi hj =
    let x : ℕ = get_or q (j / 4) 0 in
    let above : ℕ = get_or q ((j / 4 + 3) % 4) 0 in
    let h : above < 2 ^ 64 = hq ((j / 4 + 3) % 4) (omega arith) in
    let f : ℕ → ℕ → ℕ = λ w k. bit (get_or q w 0) k in
    let c = column_laid q i ((j + (16 - d)) % 16) hi (omega arith) in
    elim (dec_lt (j % 4) d) [
      | yes l ↦
          let e : 16 * (4 - d) + (16 * (j % 4) + i) ≡ 16 * (4 + j % 4 - d) + i = omega arith in
          ap (pair_bit x above) e ∙ pair_low x above (16 * (4 + j % 4 - d) + i) (omega arith)
          ∙ ap₂ f (sym (word_up d j 1 hd hj (omega arith))) (omega arith) ∙ sym c
      | no l ↦
          let e : 16 * (4 - d) + (16 * (j % 4) + i) ≡ 64 + (16 * (j % 4 - d) + i) = omega arith in
          ap (pair_bit x above) e ∙ pair_high x above (16 * (j % 4 - d) + i) h
          ∙ ap₂ f (sym (word_up d j 0 hd hj (omega arith) ∙ omega arith)) (omega arith) ∙ sym c
    ]

pub nonlinear_columns : (q r : List ℕ) → Words q
    → ((u : ℕ) → u < 4 → DownColumns (get_or q u 0) (get_or q ((u + 3) % 4) 0) (get_or r u 0))
    → transposed (laid r) ≡ map nonlinear (transposed (laid q))
nonlinear_columns q r hq g =
    same_rows (transposed (laid r)) (map nonlinear (transposed (laid q)))
    (rows_transposed (laid r))
    (mapped_rows nonlinear (transposed (laid q)) nonlinear_below (rows_transposed (laid q)))
    (λ i j hi hj.
    let k : ℕ = 16 * (j % 4) + i in
    let e0 : up q j (64 + k) ≡ cell (transposed (laid q)) i j =
    column_bit q 0 i j hq (omega arith) hi hj ∙ ap (cell (transposed (laid q)) i) (omega arith) in
    let e1 = column_bit q 1 i j hq (omega arith) hi hj in
    let e2 = column_bit q 2 i j hq (omega arith) hi hj in
    let e3 = column_bit q 3 i j hq (omega arith) hi hj in
    let e4 : up q j k ≡ cell (transposed (laid q)) i ((j + 12) % 16) =
    ap (up q j) (omega arith) ∙ column_bit q 4 i j hq (omega arith) hi hj in
    column_laid r i j hi hj ∙ g (j / 4) (omega arith) k (omega arith)
    ∙ (cc (e0, e1, e2, e3, e4))
    ∙ sym (cell_nonlinear (transposed (laid q)) (rows_transposed (laid q)) i j hi hj))
