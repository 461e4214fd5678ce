-- The bit formula for φ5 on words, at every width.
use Rattle.std.proofs.Common.{◌≡◌, ℕ, ◌-◌, ◌^◌, ◌<◌, Bool, eqb, ap, ◌∙◌, lt_of_le_of_lt, eqb→eq}
use lib.Bits.{bit_and, bit_or, bit_xor, and_le_l}
use Rattle.cbeam.specs.Bits.{bit}
use Rattle.cbeam.specs.Phi5.{phi5, Phi5Bits}
use Rattle.cbeam.proofs.Bitwise.{bit_below, bit-xor, bit-and, bit-or, bit_not}
use Rattle.cbeam.proofs.Computed.{bits, at_bit}

-- the formula, for any complement
abbrev formula_by : (ℕ → ℕ) → ℕ → ℕ → ℕ → ℕ → ℕ → ℕ
formula_by comp x0 x1 x2 x3 x4 =
    bit_xor
    (bit_and (comp (bit_and x0 (bit_xor (bit_and (comp x3) x4) (bit_and (comp x2) x3)))) (bit_or x1 (bit_and (comp x2) x3)))
    (bit_and (comp x2) (bit_and (comp x3) x4))

-- at five words, where m is the word with every bit set
abbrev pub formula : ℕ → ℕ → ℕ → ℕ → ℕ → ℕ → ℕ
formula m = formula_by (λ x. m - x)

-- at five bits
abbrev formula_bit : ℕ → ℕ → ℕ → ℕ → ℕ → ℕ
formula_bit = formula_by (λ x. bit_xor x 1)

abbrev test : ℕ → ℕ → ℕ → ℕ → ℕ → Bool
test a b c d e = eqb (formula_bit a b c d e) (phi5 a b c d e)

formula_is_phi5 : (a b c d e : ℕ) → a < 2 → b < 2 → c < 2 → d < 2 → e < 2 → formula_bit a b c d e ≡ phi5 a b c d e
unfolding phi5
formula_is_phi5 a b c d e ha hb hc hd he =
    eqb→eq (formula_bit a b c d e) (phi5 a b c d e)
    (at_bit (λ e. test a b c d e)
    (at_bit (λ d. bits λ e. test a b c d e)
    (at_bit (λ c. bits λ d. bits λ e. test a b c d e)
    (at_bit (λ b. bits λ c. bits λ d. bits λ e. test a b c d e)
    (at_bit (λ a. bits λ b. bits λ c. bits λ d. bits λ e. test a b c d e) tt a ha)
    b hb)
    c hc)
    d hd)
    e he)

pub formula_bits : (w r x0 x1 x2 x3 x4 : ℕ) → x0 < 2 ^ w → x2 < 2 ^ w → x3 < 2 ^ w
    → r ≡ formula (2 ^ w - 1) x0 x1 x2 x3 x4 → Phi5Bits w r x0 x1 x2 x3 x4
formula_bits w r x0 x1 x2 x3 x4 h0 h2 h3 e = record {
  at = λ j l.
      let m : ℕ = 2 ^ w - 1 in
      let h : bit_and x0 (bit_xor (bit_and (m - x3) x4) (bit_and (m - x2) x3)) < 2 ^ w =
      lt_of_le_of_lt (and_le_l x0 (bit_xor (bit_and (m - x3) x4) (bit_and (m - x2) x3))) h0 in
      ap (λ n. bit n j) e
      ∙ simp (bit-xor, bit-and, bit-or, bit_not)
      (formula_is_phi5 (bit x0 j) (bit x1 j) (bit x2 j) (bit x3 j) (bit x4 j)
      (bit_below x0 j) (bit_below x1 j) (bit_below x2 j) (bit_below x3 j) (bit_below x4 j));
}
