-- The bytes of a number: reading one, and putting one in.
use Rattle.std.proofs.Common.{◌≡◌, ℕ, ◌+◌, ◌-◌, ◌*◌, ◌/◌, ◌%◌, ◌^◌, ◌<◌, ◌≤◌, ◌⊎◌, sym, ap, ◌∙◌, subst, inl, inr, mod-lt, arith}
use native.Mathlib.Decide.{dec_lt}
use lib.Bits.{bit_and, bit_xor, and_mask, xor_zero_r, xor_lt}
use Rattle.cbeam.specs.Bits.{bit}
use Rattle.cbeam.proofs.Bitwise.{bit-xor, bit-shr, bit-mod, bit-shl_high, bit-shl_low, bit_none, same_bits}
use Rattle.cbeam.proofs.Sums.{cancel}

-- byte p of a number
abbrev pub byte_part : ℕ → ℕ → ℕ
byte_part x p = x / 2 ^ (8 * p) % 2 ^ 8

pub byte_below : (x p : ℕ) → byte_part x p < 2 ^ 8
byte_below x p = mod-lt (x / 2 ^ (8 * p)) (omega arith)

-- the same by a mask
pub byte_masked : (x p : ℕ) → bit_and (x / 2 ^ (8 * p)) 255 ≡ byte_part x p
byte_masked x p = and_mask (x / 2 ^ (8 * p)) 8

pub byte_bit : (x p j : ℕ) → j < 8 → bit (byte_part x p) j ≡ bit x (8 * p + j)
byte_bit x p j h = bit-mod (x / 2 ^ (8 * p)) 8 j h ∙ bit-shr x (8 * p) j

-- ---- one byte put in

-- what is to be flipped in byte p of x, so that it becomes b
abbrev change : ℕ → ℕ → ℕ → ℕ
change x p b = bit_xor (bit_and (x / 2 ^ (8 * p)) 255) b

-- x of w bits with b for its byte p
abbrev pub byte_put : ℕ → ℕ → ℕ → ℕ → ℕ
byte_put w x p b = bit_xor x (change x p b * 2 ^ (8 * p) % 2 ^ w)

put_bit_same : (w x p b j : ℕ) → 8 * p + 8 ≤ w → j < 8 → bit (byte_put w x p b) (8 * p + j) ≡ bit b j
put_bit_same w x p b j h l =
    bit-xor x (change x p b * 2 ^ (8 * p) % 2 ^ w) (8 * p + j)
    ∙ ap (bit_xor (bit x (8 * p + j)))
    (bit-mod (change x p b * 2 ^ (8 * p)) w (8 * p + j) (omega arith)
    ∙ bit-shl_high (change x p b) (8 * p) j
    ∙ bit-xor (bit_and (x / 2 ^ (8 * p)) 255) b j
    ∙ ap (λ z. bit_xor z (bit b j)) (ap (λ y. bit y j) (byte_masked x p) ∙ byte_bit x p j l))
    ∙ cancel (bit x (8 * p + j)) (bit b j)

put_bit_other : (w x p b n : ℕ) → b < 2 ^ 8 → n < w → (n < 8 * p) ⊎ (8 * p + 8 ≤ n) → bit (byte_put w x p b) n ≡ bit x n
put_bit_other w x p b n hb hn o =
    let v : ℕ = change x p b in
    let old : bit_and (x / 2 ^ (8 * p)) 255 < 2 ^ 8 =
    subst (λ (y : ℕ). y < 2 ^ 8) (sym (byte_masked x p)) (byte_below x p) in
    let hv : v < 2 ^ 8 = xor_lt 8 (bit_and (x / 2 ^ (8 * p)) 255) b old hb in
    bit-xor x (v * 2 ^ (8 * p) % 2 ^ w) n
    ∙ ap (bit_xor (bit x n))
    (bit-mod (v * 2 ^ (8 * p)) w n hn
    ∙ elim (dec_lt n (8 * p)) [
      | yes l ↦ bit-shl_low v (8 * p) n l
      | no l ↦
          let e : n ≡ 8 * p + (n - 8 * p) = omega arith in
          ap (bit (v * 2 ^ (8 * p))) e ∙ bit-shl_high v (8 * p) (n - 8 * p) ∙ bit_none v 8 (n - 8 * p) hv (omega arith)
    ])
    ∙ xor_zero_r (bit x n)

pub put_same : (w x p b : ℕ) → 8 * p + 8 ≤ w → b < 2 ^ 8 → byte_part (byte_put w x p b) p ≡ b
put_same w x p b h hb =
    same_bits 8 (byte_part (byte_put w x p b) p) b (byte_below (byte_put w x p b) p) hb
    (λ j l. byte_bit (byte_put w x p b) p j l ∙ put_bit_same w x p b j h l)

pub put_other : (w x p b i : ℕ) → 8 * i + 8 ≤ w → b < 2 ^ 8 → (i ≡ p → ⊥)
    → byte_part (byte_put w x p b) i ≡ byte_part x i
put_other w x p b i h hb ne =
    same_bits 8 (byte_part (byte_put w x p b) i) (byte_part x i) (byte_below (byte_put w x p b) i) (byte_below x i)
    (λ j l.
    byte_bit (byte_put w x p b) i j l
    ∙ put_bit_other w x p b (8 * i + j) hb (omega arith)
    (elim (dec_lt i p) [ yes k ↦ inl (omega arith) | no k ↦ inr (omega arith) ])
    ∙ sym (byte_bit x i j l))
