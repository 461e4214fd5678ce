-- A row gathered bit by bit.
use Rattle.std.proofs.Common.{◌≡◌, ℕ, ◌+◌, ◌*◌, ◌/◌, ◌%◌, ◌^◌, ◌<◌, sym, ap, ◌∙◌, ap₂, add_comm, add-one, arith}
use lib.Bits.{bit_and, bit_or, and_mask, or_shifted_r}
use Rattle.std.proofs.lemmas.Nat.{shl_whole}
use Rattle.cbeam.specs.Bits.{bit, word}
use Rattle.cbeam.proofs.Bitwise.{bit_below, word_below}

-- one more bit: `w | (((y >> i) & 1) << j)`
pub gather_more : (f : ℕ → ℕ) (w y i j : ℕ) → ((k : ℕ) → f k < 2) → j < 16 → w ≡ word j f → bit y i ≡ f j
    → bit_or w (bit_and (y / 2 ^ i) 1 * 2 ^ j % 2 ^ 16) ≡ word (j + 1) f
unfolding bit word
gather_more f w y i j h hj e b =
    let v : ℕ = y / 2 ^ i % 2 in
    let s : bit_and (y / 2 ^ i) 1 ≡ v = and_mask (y / 2 ^ i) 1 in
    let l : word j f < 2 ^ j = word_below j f (λ k m. h k) in
    ap₂ (λ a b. bit_or a (b * 2 ^ j % 2 ^ 16)) e s
    ∙ ap (bit_or (word j f)) (shl_whole v 1 j 16 (bit_below y i) (omega arith))
    ∙ or_shifted_r v j (word j f) l
    ∙ add_comm (v * 2 ^ j) (word j f)
    ∙ ap (λ x. word j f + x * 2 ^ j) b
    ∙ ap (λ n. word n f) (sym (add-one j))
