-- The steps on one row of 16 bits, by rotations.
use Rattle.std.proofs.Common.{◌≡◌, ℕ, ◌+◌, ◌-◌, ◌*◌, ◌/◌, ◌%◌, ◌^◌, ◌<◌, sym, ap, ◌∙◌, subst, ap₂, lt_of_le_of_lt, mod-lt, arith}
use native.Mathlib.Decide.{dec_lt}
use lib.Bits.{bit_or, bit_xor, or_zero_r, or_lt, xor_lt}
use lib.Pow.{shr_le}
use Rattle.cbeam.specs.Bits.{bit}
use Rattle.cbeam.specs.Phi5.{Phi5Bits}
use Rattle.cbeam.specs.Permutation.{around, linear, nonlinear}
use Rattle.cbeam.proofs.Bitwise.{bit-xor, bit-or, bit-shr, bit-mod, bit-shl_high, bit-shl_low, bit_none, same_bits}
use Rattle.cbeam.proofs.Steps.{linear_bit, linear_below, nonlinear_bit, nonlinear_below}

-- x rotated by n places to the left
abbrev rotated_left : ℕ → ℕ → ℕ
rotated_left n x = bit_or (x * 2 ^ n % 2 ^ 16) (x / 2 ^ (16 - n))

rotated_bit : (n x j : ℕ) → n < 16 → x < 2 ^ 16 → j < 16 → bit (rotated_left n x) j ≡ around x (j + (16 - n))
rotated_bit n x j hn hx hj =
    bit-or (x * 2 ^ n % 2 ^ 16) (x / 2 ^ (16 - n)) j
    ∙ ap₂ bit_or (bit-mod (x * 2 ^ n) 16 j hj) (bit-shr x (16 - n) j)
    ∙ elim (dec_lt j n) [
      | yes h ↦ ap (λ b. bit_or b (bit x ((16 - n) + j))) (bit-shl_low x n j h) ∙ ap (bit x) (omega arith)
      | no h ↦
          let e : j ≡ n + (j - n) = omega arith in
          ap₂ bit_or (ap (bit (x * 2 ^ n)) e ∙ bit-shl_high x n (j - n)) (bit_none x 16 ((16 - n) + j) hx (omega arith))
          ∙ or_zero_r (bit x (j - n)) ∙ ap (bit x) (omega arith)
    ]

rotated_below : (n x : ℕ) → x < 2 ^ 16 → rotated_left n x < 2 ^ 16
rotated_below n x hx =
    or_lt 16 (x * 2 ^ n % 2 ^ 16) (x / 2 ^ (16 - n))
    (mod-lt (x * 2 ^ n) (omega arith)) (lt_of_le_of_lt (shr_le x (16 - n)) hx)

-- a is x rotated by n places
abbrev Rotated : ℕ → ℕ → ℕ → Type 0
Rotated n x a = a ≡ rotated_left n x

below : (n x a : ℕ) → x < 2 ^ 16 → Rotated n x a → a < 2 ^ 16
below n x a hx e = subst (λ (m : ℕ). m < 2 ^ 16) (sym e) (rotated_below n x hx)

at_place : (n x a j : ℕ) → n < 16 → x < 2 ^ 16 → j < 16 → Rotated n x a → bit a j ≡ around x (j + (16 - n))
at_place n x a j hn hx hj e = ap (λ m. bit m j) e ∙ rotated_bit n x j hn hx hj

pub linear_rotations : (x a b c : ℕ) → x < 2 ^ 16 → Rotated 12 x a → Rotated 8 x b → Rotated 4 x c
    → bit_xor (bit_xor a b) c ≡ linear x
linear_rotations x a b c hx ea eb ec =
    same_bits 16 (bit_xor (bit_xor a b) c) (linear x)
    (xor_lt 16 (bit_xor a b) c (xor_lt 16 a b (below 12 x a hx ea) (below 8 x b hx eb)) (below 4 x c hx ec))
    (linear_below x)
    (λ j hj.
    let e4 = at_place 12 x a j (omega arith) hx hj ea in
    let e8 = at_place 8 x b j (omega arith) hx hj eb in
    let e12 = at_place 4 x c j (omega arith) hx hj ec in
    bit-xor (bit_xor a b) c j ∙ ap₂ bit_xor (bit-xor a b j ∙ ap₂ bit_xor e4 e8) e12 ∙ sym (linear_bit x j hj))

pub nonlinear_rotations : (x a b c d r : ℕ) → x < 2 ^ 16
    → Rotated 1 x a → Rotated 2 x b → Rotated 3 x c → Rotated 4 x d → r < 2 ^ 16 → Phi5Bits 16 r x a b c d → r ≡ nonlinear x
nonlinear_rotations x a b c d r hx ea eb ec ed hr g =
    same_bits 16 r (nonlinear x) hr (nonlinear_below x)
    (λ j hj.
    let e1 = at_place 1 x a j (omega arith) hx hj ea in
    let e2 = at_place 2 x b j (omega arith) hx hj eb in
    let e3 = at_place 3 x c j (omega arith) hx hj ec in
    let e4 = at_place 4 x d j (omega arith) hx hj ed in
    g.at j hj ∙ (cc (e1, e2, e3, e4)) ∙ sym (nonlinear_bit x j hj))
