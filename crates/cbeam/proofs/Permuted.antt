-- The permutation on the bytes of rows is the six rounds on the rows.
use Rattle.std.proofs.Common.{◌≡◌, ℕ, ◌+◌, ◌*◌, ◌/◌, ◌%◌, ◌^◌, List, map, get_or, sym, ap, ◌∙◌, ap₂, arith, refl, ext_get_or}
use lib.Bits.{bit_xor}
use Rattle.std.specs.List.{range_with_len}
use Rattle.cbeam.specs.Bits.{bit}
use Rattle.cbeam.specs.Permutation.{constants, flipped, transposed, linear, nonlinear, round, rounds}
use Rattle.cbeam.specs.Permutation.{row_of, rows_of, bytes_of, pi}
use Rattle.cbeam.proofs.Bitwise.{bit-mod}
use Rattle.cbeam.proofs.Bytes.{byte_part}
use Rattle.cbeam.proofs.Cells.{cell, same_rows, made_row, rows_transposed, cell_transposed, cell_flipped}
use Rattle.cbeam.proofs.StateBytes.{byte_rows}

-- the sixteen low bits of each of sixteen rows
abbrev cut_row : List ℕ → ℕ → ℕ
cut_row s k = get_or s k 0 % 2 ^ 16

abbrev cut : List ℕ → List ℕ
cut s = map (cut_row s) (range_with_len 0 16)

rows_bytes : (s : List ℕ) → rows_of (bytes_of s) ≡ cut s
unfolding rows_of
rows_bytes s =
    ext_get_or 0 (rows_of (bytes_of s)) (cut s) refl
    (λ k l.
    let x : ℕ = get_or s k 0 in
    let f : ℕ → ℕ → ℕ = λ u p. byte_part (get_or s u 0) p in
    let a0 : 2 * k / 2 ≡ k = omega arith in
    let z0 : 2 * k % 2 ≡ 0 = omega arith in
    let a1 : (2 * k + 1) / 2 ≡ k = omega arith in
    let z1 : (2 * k + 1) % 2 ≡ 1 = omega arith in
    let lo : get_or (bytes_of s) (2 * k) 0 ≡ byte_part x 0 = byte_rows s (2 * k) (omega arith) ∙ ap₂ f a0 z0 in
    let hi : get_or (bytes_of s) (2 * k + 1) 0 ≡ byte_part x 1 = byte_rows s (2 * k + 1) (omega arith) ∙ ap₂ f a1 z1 in
    let e : byte_part x 0 + 256 * byte_part x 1 ≡ x % 2 ^ 16 = omega arith in
    made_row (row_of (bytes_of s)) k l ∙ ap₂ (λ a b. a + 256 * b) lo hi ∙ e ∙ sym (made_row (cut_row s) k l))

-- a round reads only the sixteen low bits of each row
round_cut : (r : ℕ) (s : List ℕ) → round r (cut s) ≡ round r s
round_cut r s =
    ap (λ t. map nonlinear (map linear t))
    (same_rows (transposed (flipped r (cut s))) (transposed (flipped r s))
    (rows_transposed (flipped r (cut s))) (rows_transposed (flipped r s))
    (λ i j hi hj.
    cell_transposed (flipped r (cut s)) i j hi hj ∙ cell_flipped r (cut s) j i hj
    ∙ ap (λ b. bit_xor b (cell (constants r) j i))
    (ap (λ x. bit x i) (made_row (cut_row s) j hj) ∙ bit-mod (get_or s j 0) 16 i hi)
    ∙ sym (cell_transposed (flipped r s) i j hi hj ∙ cell_flipped r s j i hj)))

pub pi_rows : (s : List ℕ) → pi (bytes_of s) ≡ bytes_of (rounds 6 s)
unfolding pi
pi_rows s =
    ap (λ t. bytes_of (rounds 6 t)) (rows_bytes s)
    ∙ ap (λ t. bytes_of (round 5 (round 4 (round 3 (round 2 (round 1 t)))))) (round_cut 0 s)
