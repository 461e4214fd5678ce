-- The nonlinear step along the rows of a word: each row is rotated by two shifts and two masks.
use Rattle.std.proofs.Common.{◌≡◌, ℕ, suc, ◌+◌, ◌-◌, ◌*◌, ◌/◌, ◌%◌, ◌^◌, ◌<◌, ◌≤◌, min, Bool, T, eqb, sym, ap, ◌∙◌, arith, eqb→eq}
use native.Mathlib.Decide.{dec_lt}
use lib.Bits.{bit_and, bit_xor, and_zero_r, xor_zero_r}
use Rattle.cbeam.specs.Bits.{bit}
use Rattle.cbeam.specs.Phi5.{Phi5Bits}
use Rattle.cbeam.specs.Permutation.{nonlinear}
use Rattle.cbeam.specs.Words.{lane}
use Rattle.cbeam.proofs.Bitwise.{bit_below, bit-xor, bit-and, bit-shr, same_bits, and_one, shl_in}
use Rattle.cbeam.proofs.Computed.{both, both_left, both_right, upto, at_upto}
use Rattle.cbeam.proofs.Lanes.{lane_below, lane_bit}
use Rattle.cbeam.proofs.Steps.{nonlinear_bit, nonlinear_below}

-- y is x with each row rotated by n places to the left
abbrev Turned : ℕ → ℕ → ℕ → Type 0
Turned n x y = (m j : ℕ) → m < 4 → j < 16 → bit y (16 * m + j) ≡ bit x (16 * m + (j + (16 - n)) % 16)

-- ---- the rotation, by a mask for the places from n up in each row and one for those below n

abbrev rotated : ℕ → ℕ → ℕ → ℕ → ℕ
rotated n a b x = bit_xor (bit_and (x * 2 ^ n % 2 ^ 64) a) (bit_and (x / 2 ^ (16 - n)) b)

abbrev from_n : ℕ → ℕ → ℕ → Bool
from_n n a k = eqb (bit a k) (min 1 (suc (k % 16) - n))

abbrev below_n : ℕ → ℕ → ℕ → Bool
below_n n b k = eqb (bit b k) (min 1 (n - k % 16))

abbrev masks : ℕ → ℕ → ℕ → Bool
masks n a b = upto 64 λ k. both (from_n n a k) (below_n n b k)

rotated_low : (n a b x k : ℕ) → bit a k ≡ 0 → bit b k ≡ 1 → bit (rotated n a b x) k ≡ bit x ((16 - n) + k)
rotated_low n a b x k ea eb =
    simp (bit-xor, bit-and, ea, eb, and_zero_r)
    (and_one (bit (x / 2 ^ (16 - n)) k) (bit_below (x / 2 ^ (16 - n)) k) ∙ bit-shr x (16 - n) k)

rotated_high : (n a b x k : ℕ) → n ≤ k → k < 64 → bit a k ≡ 1 → bit b k ≡ 0 → bit (rotated n a b x) k ≡ bit x (k - n)
rotated_high n a b x k h l ea eb =
    simp (bit-xor, bit-and, ea, eb, and_zero_r, xor_zero_r)
    (and_one (bit (x * 2 ^ n % 2 ^ 64) k) (bit_below (x * 2 ^ n % 2 ^ 64) k) ∙ shl_in x n k h l)

pub rotated_turned : (n a b : ℕ) → n < 16 → T (masks n a b) → (x : ℕ) → Turned n x (rotated n a b x)
rotated_turned n a b hn t x m j hm hj =
    let k : ℕ = 16 * m + j in
    let l : k < 64 = omega arith in
    let tk : T (both (from_n n a k) (below_n n b k)) = at_upto 64 (λ k. both (from_n n a k) (below_n n b k)) t k l in
    let ea : bit a k ≡ min 1 (suc (k % 16) - n) =
    eqb→eq (bit a k) (min 1 (suc (k % 16) - n)) (both_left (from_n n a k) (below_n n b k) tk) in
    let eb : bit b k ≡ min 1 (n - k % 16) =
    eqb→eq (bit b k) (min 1 (n - k % 16)) (both_right (from_n n a k) (below_n n b k) tk) in
    elim (dec_lt j n) [
      | yes h ↦ rotated_low n a b x k (omega arith) (omega arith) ∙ ap (bit x) (omega arith)
      | no h ↦ rotated_high n a b x k (omega arith) l (omega arith) (omega arith) ∙ ap (bit x) (omega arith)
    ]

-- ---- the step

-- φ5 of a word and its four rotations is the nonlinear step of each row
pub along_nonlinear_lane : (x x1 x2 x3 x4 r : ℕ)
    → Turned 1 x x1 → Turned 2 x x2 → Turned 3 x x3 → Turned 4 x x4
    → Phi5Bits 64 r x x1 x2 x3 x4
    → (m : ℕ) → m < 4 → lane r m ≡ nonlinear (lane x m)
along_nonlinear_lane x x1 x2 x3 x4 r t1 t2 t3 t4 g m hm =
    same_bits 16 (lane r m) (nonlinear (lane x m)) (lane_below r m) (nonlinear_below (lane x m))
    (λ j hj.
    let e1 = t1 m j hm hj in
    let e2 = t2 m j hm hj in
    let e3 = t3 m j hm hj in
    let e4 = t4 m j hm hj in
    let f0 = lane_bit x m j hj in
    let f1 = lane_bit x m ((j + 15) % 16) (omega arith) in
    let f2 = lane_bit x m ((j + 14) % 16) (omega arith) in
    let f3 = lane_bit x m ((j + 13) % 16) (omega arith) in
    let f4 = lane_bit x m ((j + 12) % 16) (omega arith) in
    lane_bit r m j hj ∙ g.at (16 * m + j) (omega arith)
    ∙ (cc (e1, e2, e3, e4, f0, f1, f2, f3, f4)) ∙ sym (nonlinear_bit (lane x m) j hj))
