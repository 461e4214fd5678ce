-- Four words of 64 bits as sixteen rows: word q has the rows 4q to 4q + 3, the first lowest.
use Rattle.std.specs.Prelude.{◌≡◌, ℕ, ◌+◌, ◌*◌, ◌/◌, ◌%◌, ◌^◌, ◌<◌, List, [], ◌∷◌, map, bit_xor, slice_index}
use Rattle.std.specs.List.{range_with_len}
use Rattle.cbeam.specs.Bits.{bit}
use Rattle.cbeam.specs.Phi5.{phi5}
use Rattle.cbeam.specs.Permutation.{constants, round}

-- row m of a word
unfoldable pub lane : ℕ → ℕ → ℕ
lane x m = x / 2 ^ (16 * m) % 2 ^ 16

-- the rows of four words
abbrev pub laid_row : List ℕ → ℕ → ℕ
laid_row q i = lane (slice_index q (i / 4)) (i % 4)

unfoldable pub laid : List ℕ → List ℕ
laid q = map (laid_row q) (range_with_len 0 16)

-- bit k of two words of 64 bits, the second below the first
unfoldable pub pair_bit : ℕ → ℕ → ℕ → ℕ
pair_bit x above k = bit (x * 2 ^ 64 + above) k

-- r has, at each bit, φ5 of that bit of x and of the four bits one to four rows above it
abbrev pub DownColumns : ℕ → ℕ → ℕ → Type 0
DownColumns x above r =
    let up : ℕ → ℕ = pair_bit x above in
    (k : ℕ) → k < 64 → bit r k ≡ phi5 (up (64 + k)) (up (48 + k)) (up (32 + k)) (up (16 + k)) (up k)

-- four words with a word added to the first
abbrev pub added : ℕ → List ℕ → List ℕ
added c q = bit_xor (slice_index q 0) c ∷ slice_index q 1 ∷ slice_index q 2 ∷ slice_index q 3 ∷ []

-- c is the transposed constant of round r, which reaches only the first four rows: one word of 64 bits
abbrev pub Packs : ℕ → ℕ → Type 0
Packs c r = (i j : ℕ) → i < 16 → j < 16 → bit (slice_index (constants r) j) i ≡ bit c (16 * i + j)

-- t is s after any even round and then the odd round whose transposed constant is c
abbrev pub TwoRounds : ℕ → List ℕ → List ℕ → Type 0
TwoRounds c s t = (even odd : ℕ) → bit even 0 ≡ 0 → Packs c odd → t ≡ round odd (round even s)
