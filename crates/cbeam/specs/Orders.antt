-- The 32 bytes of rows, and of four words, are the bytes of each in order.
use Rattle.std.specs.Prelude.{◌≡◌, ℕ, zero, suc, ◌+◌, ◌*◌, ◌/◌, ◌%◌, ◌^◌, ◌<◌, List, map, refl, slice_index}
use Rattle.std.proofs.Common.{sym, ap, ap₂, ◌∙◌, zero-add, arith, shr-shr}
use Rattle.std.proofs.lemmas.List.{map-id}
use Rattle.std.proofs.lemmas.List.FromFn.{fill_by_all, get_or-map-range_with_len}
use Rattle.cbeam.specs.Permutation.{byte_of, bytes_of, byte_in, bytes_in}
use Rattle.cbeam.specs.Words.{lane, laid_row, laid}

pub rows_in_order : (s : List ℕ) → bytes_of s ≡ bytes_in 2 (map (λ x. x) s)
unfolding bytes_of bytes_in
rows_in_order s = ap (bytes_in 2) (sym (map-id s))

-- byte p of row m of a word is byte 2m + p of the word
byte_lane : (x m p : ℕ) → p < 2 → lane x m / 2 ^ (8 * p) % 256 ≡ x / 2 ^ (8 * (2 * m + p)) % 256
unfolding lane
byte_lane x m zero h =
    let e : 16 * m ≡ 8 * (2 * m + 0) = omega arith in
    let low : x / 2 ^ (16 * m) % 65536 / 1 % 256 ≡ x / 2 ^ (16 * m) % 256 = omega arith in
    low ∙ ap (λ n. x / 2 ^ n % 256) e
byte_lane x m (suc zero) h =
    let e : 16 * m + 8 ≡ 8 * (2 * m + 1) = omega arith in
    let high : x / 2 ^ (16 * m) % 65536 / 256 % 256 ≡ x / 2 ^ (16 * m) / 256 % 256 = omega arith in
    high ∙ ap (λ y. y % 256) (shr-shr x (16 * m) 8) ∙ ap (λ n. x / 2 ^ n % 256) e
byte_lane x m (suc (suc p)) h = absurd (omega arith)

pub row_laid : (q : List ℕ) (i : ℕ) → i < 16 → slice_index (laid q) i ≡ laid_row q i
unfolding laid
row_laid q i h = get_or-map-range_with_len (laid_row q) 0 16 i i 0 h (zero-add i)

byte_laid : (q : List ℕ) (k : ℕ) → k < 32 → byte_of (laid q) k ≡ byte_in 8 q k
byte_laid q k h =
    ap (λ x. x / 2 ^ (8 * (k % 2)) % 256) (row_laid q (k / 2) (omega arith))
    ∙ byte_lane (slice_index q (k / 2 / 4)) (k / 2 % 4) (k % 2) (omega arith)
    ∙ ap₂ (λ u p. slice_index q u / 2 ^ (8 * p) % 256) (omega arith) (omega arith)

pub words_in_order : (q : List ℕ) → bytes_of (laid q) ≡ bytes_in 8 (map (λ x. x) q)
unfolding bytes_of bytes_in
words_in_order q =
    fill_by_all (byte_in 8 q) (bytes_of (laid q)) 32 0 refl
    (λ k h. get_or-map-range_with_len (byte_of (laid q)) 0 32 k k 0 h (zero-add k) ∙ byte_laid q k h)
    ∙ ap (bytes_in 8) (sym (map-id q))
