-- The permutation π of CBEAMr1 on 32 bytes, bit by bit.
--
-- A state is a 16 by 16 matrix of bits. It is held as a list of sixteen rows, each a number below 2 ^ 16 whose bit j,
-- counted from the lowest, is the matrix's bit at column j. Each step says what every bit of its result is.
use Rattle.std.specs.Prelude.{ℕ, zero, suc, ◌+◌, ◌-◌, ◌*◌, ◌/◌, ◌%◌, ◌^◌, cond, List, [], ◌∷◌, map, Some, None, Option, bit_xor, nat_le, slice_index}
use Rattle.std.specs.List.{range_with_len}
use Rattle.cbeam.specs.Bits.{bit, word}
use Rattle.cbeam.specs.Phi5.{phi5}

-- ---- the four steps of a round

-- The constant of round r, row by row: four bits of every odd round, and more by the next two bits of r.
unfoldable pub constants : ℕ → List ℕ
constants r =
    let odd : ℕ = bit r 0 in
    let early : ℕ = odd * (1 - bit r 1) in
    let middle : ℕ = odd * bit r 1 in
    let late : ℕ = odd * bit r 2 in
    early ∷ late ∷ 0 ∷ odd
    ∷ 2 * odd ∷ 2 * early ∷ 2 * late ∷ 0
    ∷ 4 * middle ∷ 0 ∷ 4 * odd ∷ 4 * late
    ∷ 0 ∷ 8 * odd ∷ 8 * middle ∷ 8 * late ∷ []

-- The constant of round r is added: a bit of the state flips where that bit of the constant is set.
abbrev pub flipped_row : ℕ → List ℕ → ℕ → ℕ
flipped_row r s i = bit_xor (slice_index s i) (slice_index (constants r) i)

unfoldable pub flipped : ℕ → List ℕ → List ℕ
flipped r s = map (flipped_row r s) (range_with_len 0 16)

-- The transposition: new bit j of row i is old bit i of row j.
abbrev pub transposed_row : List ℕ → ℕ → ℕ
transposed_row s i = word 16 (λ j. bit (slice_index s j) i)

unfoldable pub transposed : List ℕ → List ℕ
transposed s = map (transposed_row s) (range_with_len 0 16)

-- bit k of a row, counted modulo 16
abbrev pub around : ℕ → ℕ → ℕ
around x k = bit x (k % 16)

-- The linear step on a row: new bit j is the exclusive-or of the old bits j + 4, j + 8 and j + 12.
abbrev pub linear_at : ℕ → ℕ → ℕ
linear_at x j = bit_xor (bit_xor (around x (j + 4)) (around x (j + 8))) (around x (j + 12))

unfoldable pub linear : ℕ → ℕ
linear x = word 16 (linear_at x)

-- The nonlinear step on a row: new bit j is φ5 of the old bits j, j - 1, j - 2, j - 3 and j - 4.
abbrev pub nonlinear_at : ℕ → ℕ → ℕ
nonlinear_at x j = phi5 (bit x j) (around x (j + 15)) (around x (j + 14)) (around x (j + 13)) (around x (j + 12))

unfoldable pub nonlinear : ℕ → ℕ
nonlinear x = word 16 (nonlinear_at x)

-- Round r on the rows.
abbrev pub round : ℕ → List ℕ → List ℕ
round r s = map nonlinear (map linear (transposed (flipped r s)))

-- The rows after the first n rounds.
abbrev pub rounds : ℕ → List ℕ → List ℕ
rounds zero s = s
rounds (suc n) s = round n (rounds n s)

-- ---- rows and bytes

-- Row k of 32 bytes is byte 2k + 256 × byte 2k + 1.
abbrev pub row_of : List ℕ → ℕ → ℕ
row_of b k = slice_index b (2 * k) + 256 * slice_index b (2 * k + 1)

unfoldable pub rows_of : List ℕ → List ℕ
rows_of b = map (row_of b) (range_with_len 0 16)

-- Byte k of the rows is the low byte of row k / 2 at an even k, and its high byte at an odd one.
abbrev pub byte_of : List ℕ → ℕ → ℕ
byte_of s k = slice_index s (k / 2) / 2 ^ (8 * (k % 2)) % 256

unfoldable pub bytes_of : List ℕ → List ℕ
bytes_of s = map (byte_of s) (range_with_len 0 32)

-- The 32 bytes of words of n bytes each, where byte k is a byte of word k / n, the lowest first.
abbrev pub byte_in : ℕ → List ℕ → ℕ → ℕ
byte_in n s k = slice_index s (k / n) / 2 ^ (8 * (k % n)) % 256

unfoldable pub bytes_in : ℕ → List ℕ → List ℕ
bytes_in n s = map (byte_in n s) (range_with_len 0 32)

-- ---- the permutation

-- π on 32 bytes is six rounds.
unfoldable pub pi : List ℕ → List ℕ
pi b = bytes_of (rounds 6 (rows_of b))

-- The rows of 32 bytes after the first n rounds; there are no more than six.
abbrev pub rows_after : List ℕ → ℕ → Option (List ℕ)
rows_after b n = cond (nat_le n 6) (Some (rounds n (rows_of b))) None
