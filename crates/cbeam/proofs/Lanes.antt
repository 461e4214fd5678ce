-- The rows of a word of 64 bits.
use Rattle.std.proofs.Common.{◌≡◌, ℕ, ◌+◌, ◌*◌, ◌/◌, ◌^◌, ◌<◌, ◌∙◌, mod-lt, arith}
use Rattle.cbeam.specs.Bits.{bit}
use Rattle.cbeam.specs.Words.{lane}
use Rattle.cbeam.proofs.Bitwise.{bit-shr, bit-mod}

pub lane_below : (x m : ℕ) → lane x m < 2 ^ 16
unfolding lane
lane_below x m = mod-lt (x / 2 ^ (16 * m)) (omega arith)

pub lane_bit : (x m j : ℕ) → j < 16 → bit (lane x m) j ≡ bit x (16 * m + j)
unfolding lane
lane_bit x m j h = bit-mod (x / 2 ^ (16 * m)) 16 j h ∙ bit-shr x (16 * m) j
