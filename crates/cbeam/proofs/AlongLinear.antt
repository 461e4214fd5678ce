-- The linear step along the rows of a word: the four nibbles of a row are added up and spread over it again.
use Rattle.std.proofs.Common.{◌≡◌, ℕ, ◌+◌, ◌-◌, ◌*◌, ◌/◌, ◌%◌, ◌^◌, ◌<◌, ◌≤◌, min, Bool, eqb, ◌⊎◌, sym, ap, ◌∙◌, ap₂, inl, inr, arith, eqb→eq}
use native.Mathlib.Decide.{dec_lt}
use lib.Bits.{bit_and, bit_xor, and_zero_r, xor_zero_r, xor_assoc}
use Rattle.cbeam.specs.Bits.{bit}
use Rattle.cbeam.specs.Permutation.{around, linear}
use Rattle.cbeam.specs.Words.{lane}
use Rattle.cbeam.proofs.Bitwise.{bit_below, bit-xor, bit-and, bit-shr, same_bits, and_one, shl_in, shl_out}
use Rattle.cbeam.proofs.Computed.{at_upto}
use Rattle.cbeam.proofs.Lanes.{lane_below, lane_bit}
use Rattle.cbeam.proofs.Steps.{linear_bit, linear_below}
use Rattle.cbeam.proofs.Sums.{sum, others}

-- ---- what stands low in each row, spread upward

-- y with each row's places below n copied to the n places above
abbrev spread : ℕ → ℕ → ℕ
spread n y = bit_xor y (y * 2 ^ n % 2 ^ 64)

-- nothing stands in y from place n of a row up
abbrev Low : ℕ → ℕ → Type 0
Low n y = (k : ℕ) → k < 64 → n ≤ k % 16 → bit y k ≡ 0

shl_none : (n y k : ℕ) → Low n y → n + n ≤ 16 → k < 64 → (k % 16 < n) ⊎ (n + n ≤ k % 16)
    → bit (y * 2 ^ n % 2 ^ 64) k ≡ 0
shl_none n y k low hn l w =
    elim (dec_lt k n) [
      | yes h ↦ shl_out y n k h l
      | no h ↦ shl_in y n k (omega arith) l ∙ low (k - n) (omega arith) (omega arith)
    ]

spread_low : (n y k : ℕ) → Low n y → n + n ≤ 16 → k < 64 → k % 16 < n → bit (spread n y) k ≡ bit y k
spread_low n y k low hn l h =
    bit-xor y (y * 2 ^ n % 2 ^ 64) k ∙ ap (bit_xor (bit y k)) (shl_none n y k low hn l (inl h)) ∙ xor_zero_r (bit y k)

spread_next : (n y k : ℕ) → Low n y → k < 64 → n ≤ k % 16 → bit (spread n y) k ≡ bit y (k - n)
spread_next n y k low l h =
    bit-xor y (y * 2 ^ n % 2 ^ 64) k ∙ ap (λ b. bit_xor b (bit (y * 2 ^ n % 2 ^ 64) k)) (low k l h)
    ∙ shl_in y n k (omega arith) l

spread_none : (n y : ℕ) → Low n y → n + n ≤ 16 → Low (n + n) (spread n y)
spread_none n y low hn k l h =
    bit-xor y (y * 2 ^ n % 2 ^ 64) k ∙ ap (λ b. bit_xor b (bit (y * 2 ^ n % 2 ^ 64) k)) (low k l (omega arith))
    ∙ shl_none n y k low hn l (inr h)

-- ---- the four nibbles of each row added up, in its lowest nibble

abbrev fold4 : ℕ → ℕ
fold4 x = bit_xor x (x / 2 ^ 4)

abbrev fold : ℕ → ℕ
fold x = bit_xor (fold4 x) (fold4 x / 2 ^ 8)

abbrev mask : ℕ
mask = 0x000F000F000F000F

abbrev nibbles : ℕ → ℕ
nibbles x = bit_and (fold x) mask

abbrev along_linear : ℕ → ℕ
along_linear x = bit_xor x (spread 8 (spread 4 (nibbles x)))

-- the mask has the lowest nibble of each row
abbrev low_nibble : ℕ → Bool
low_nibble k = eqb (bit mask k) (min 1 (4 - k % 16))

mask_bit : (k : ℕ) → k < 64 → bit mask k ≡ min 1 (4 - k % 16)
unfolding bit
mask_bit k l = eqb→eq (bit mask k) (min 1 (4 - k % 16)) (at_upto 64 low_nibble tt k l)

nibbles_low : (x : ℕ) → Low 4 (nibbles x)
nibbles_low x k l h =
    bit-and (fold x) mask k
    ∙ ap (bit_and (bit (fold x) k)) (omega (arith, mask_bit k l)) ∙ and_zero_r (bit (fold x) k)

-- the bits of x four places apart, from k up
abbrev fourth : ℕ → ℕ → ℕ → ℕ
fourth x k u = bit x (4 * u + k)

nibbles_bit : (x k : ℕ) → k < 64 → k % 16 < 4
    → bit (nibbles x) k ≡ sum (fourth x k 0) (fourth x k 1) (fourth x k 2) (fourth x k 3)
nibbles_bit x k l h =
    let z : k ≡ 0 + k = omega arith in
    let y : 4 + (8 + k) ≡ 12 + k = omega arith in
    bit-and (fold x) mask k
    ∙ ap (bit_and (bit (fold x) k)) (omega (arith, mask_bit k l)) ∙ and_one (bit (fold x) k) (bit_below (fold x) k)
    ∙ bit-xor (fold4 x) (fold4 x / 2 ^ 8) k
    ∙ ap₂ bit_xor (fold4_bit k) (bit-shr (fold4 x) 8 k ∙ fold4_bit (8 + k))
    ∙ sym (xor_assoc (bit_xor (bit x k) (bit x (4 + k))) (bit x (8 + k)) (bit x (4 + (8 + k))))
    ∙ ap₂ (λ a d. sum a (bit x (4 + k)) (bit x (8 + k)) d) (ap (bit x) z) (ap (bit x) y)
  where
    fold4_bit : (k : ℕ) → bit (fold4 x) k ≡ bit_xor (bit x k) (bit x (4 + k))
    fold4_bit k = bit-xor x (x / 2 ^ 4) k ∙ ap (bit_xor (bit x k)) (bit-shr x 4 k)

-- ---- the step

-- at each place stands the sum of its column of nibbles
spread_bit : (x k : ℕ) → k < 64 → bit (spread 8 (spread 4 (nibbles x))) k ≡ bit (nibbles x) (k / 16 * 16 + k % 4)
spread_bit x k l =
    elim (dec_lt (k % 16) 8) [
      | yes i ↦ spread_low 8 once k low8 (omega arith) l i ∙ once_bit k l i
      | no i ↦
          spread_next 8 once k low8 l (omega arith) ∙ once_bit (k - 8) (omega arith) (omega arith)
          ∙ ap (bit (nibbles x)) (omega arith)
    ]
  where
    once : ℕ
    once = spread 4 (nibbles x)

    low4 : Low 4 (nibbles x)
    low4 = nibbles_low x

    low8 : Low 8 once
    low8 = spread_none 4 (nibbles x) low4 (omega arith)

    once_bit : (k : ℕ) → k < 64 → k % 16 < 8 → bit once k ≡ bit (nibbles x) (k / 16 * 16 + k % 4)
    once_bit k l h =
        elim (dec_lt (k % 16) 4) [
          | yes i ↦ spread_low 4 (nibbles x) k low4 (omega arith) l i ∙ ap (bit (nibbles x)) (omega arith)
          | no i ↦ spread_next 4 (nibbles x) k low4 l (omega arith) ∙ ap (bit (nibbles x)) (omega arith)
        ]

along_linear_bit : (x m j : ℕ) → m < 4 → j < 16 → bit (along_linear x) (16 * m + j) ≡ bit (linear (lane x m)) j
along_linear_bit x m j hm hj =
    let k : ℕ = 16 * m + j in
    let p : ℕ = 16 * m + j % 4 in
    let u : ℕ = j / 4 in
    let here : k ≡ 4 * u + p = omega arith in
    let i4 : 16 * m + (j + 4) % 16 ≡ 4 * ((u + 1) % 4) + p = omega arith in
    let i8 : 16 * m + (j + 8) % 16 ≡ 4 * ((u + 2) % 4) + p = omega arith in
    let i12 : 16 * m + (j + 12) % 16 ≡ 4 * ((u + 3) % 4) + p = omega arith in
    let e4 : around (lane x m) (j + 4) ≡ fourth x p ((u + 1) % 4) = at_lane (j + 4) ∙ ap (bit x) i4 in
    let e8 : around (lane x m) (j + 8) ≡ fourth x p ((u + 2) % 4) = at_lane (j + 8) ∙ ap (bit x) i8 in
    let e12 : around (lane x m) (j + 12) ≡ fourth x p ((u + 3) % 4) = at_lane (j + 12) ∙ ap (bit x) i12 in
    let low : bit (nibbles x) (k / 16 * 16 + k % 4) ≡ bit (nibbles x) p = ap (bit (nibbles x)) (omega arith) in
    let all : bit (spread 8 (spread 4 (nibbles x))) k
    ≡ sum (fourth x p 0) (fourth x p 1) (fourth x p 2) (fourth x p 3) =
    spread_bit x k (omega arith) ∙ low ∙ nibbles_bit x p (omega arith) (omega arith) in
    bit-xor x (spread 8 (spread 4 (nibbles x))) k
    ∙ ap₂ bit_xor (ap (bit x) here) all ∙ others (fourth x p) u (omega arith)
    ∙ sym (linear_bit (lane x m) j hj ∙ ap₂ bit_xor (ap₂ bit_xor e4 e8) e12)
  where
    at_lane : (k : ℕ) → around (lane x m) k ≡ bit x (16 * m + k % 16)
    at_lane k = lane_bit x m (k % 16) (omega arith)

-- each row of the result is the linear step of that row
pub along_linear_lane : (x m : ℕ) → m < 4 → lane (along_linear x) m ≡ linear (lane x m)
along_linear_lane x m hm =
    same_bits 16 (lane (along_linear x) m) (linear (lane x m)) (lane_below (along_linear x) m) (linear_below (lane x m))
    (λ j hj. lane_bit (along_linear x) m j hj ∙ along_linear_bit x m j hm hj)
