-- The bits of a row after the linear and after the nonlinear step.
use Rattle.std.proofs.Common.{◌≡◌, ℕ, ◌+◌, ◌%◌, ◌^◌, ◌<◌, mod-lt, arith}
use lib.Bits.{bit_xor, xor_lt}
use Rattle.cbeam.specs.Bits.{bit}
use Rattle.cbeam.specs.Phi5.{phi5}
use Rattle.cbeam.specs.Permutation.{around, linear_at, linear, nonlinear_at, nonlinear}
use Rattle.cbeam.proofs.Bitwise.{bit_below, word_below, bit_word}

linear_at_below : (x j : ℕ) → linear_at x j < 2
linear_at_below x j =
    xor_lt 1 (bit_xor (around x (j + 4)) (around x (j + 8))) (around x (j + 12))
    (xor_lt 1 (around x (j + 4)) (around x (j + 8)) (bit_below x ((j + 4) % 16)) (bit_below x ((j + 8) % 16)))
    (bit_below x ((j + 12) % 16))

pub linear_bit : (x j : ℕ) → j < 16 → bit (linear x) j ≡ linear_at x j
unfolding linear
linear_bit x j h = bit_word 16 (linear_at x) (λ k l. linear_at_below x k) j h

pub linear_below : (x : ℕ) → linear x < 2 ^ 16
unfolding linear
linear_below x = word_below 16 (linear_at x) (λ k l. linear_at_below x k)

nonlinear_at_below : (x j : ℕ) → nonlinear_at x j < 2
unfolding phi5
nonlinear_at_below x j = mod-lt _ (omega arith)

pub nonlinear_bit : (x j : ℕ) → j < 16 → bit (nonlinear x) j ≡ nonlinear_at x j
unfolding nonlinear
nonlinear_bit x j h = bit_word 16 (nonlinear_at x) (λ k l. nonlinear_at_below x k) j h

pub nonlinear_below : (x : ℕ) → nonlinear x < 2 ^ 16
unfolding nonlinear
nonlinear_below x = word_below 16 (nonlinear_at x) (λ k l. nonlinear_at_below x k)
