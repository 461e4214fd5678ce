-- Two rounds on four words: an even one down the columns, then an odd one along the rows.
use Rattle.std.proofs.Common.{◌≡◌, ℕ, ◌^◌, ◌<◌, List, map, get_or, sym, ap, ◌∙◌}
use lib.Bits.{bit_xor, xor_zero_r}
use lib.ListN.{get_or-replicate}
use Rattle.std.proofs.lemmas.List.FromFn.{fill_by_all}
use Rattle.cbeam.specs.Bits.{bit}
use Rattle.cbeam.specs.Permutation.{flipped_row, flipped, transposed, linear, nonlinear, round}
use Rattle.cbeam.specs.Words.{laid, added, TwoRounds}
use Rattle.cbeam.proofs.Cells.{Rows, rows_laid}
use Rattle.cbeam.proofs.Constants.{even_none}
use Rattle.cbeam.proofs.PackedConstants.{added_transposed}

-- an even round flips nothing
flipped_none : (r : ℕ) (s : List ℕ) → bit r 0 ≡ 0 → Rows s → flipped r s ≡ s
unfolding flipped
flipped_none r s e hs =
    sym (fill_by_all (flipped_row r s) s 16 0 hs.count
    (λ k l.
    sym (ap (λ c. bit_xor (get_or s k 0) (get_or c k 0)) (even_none r e)
    ∙ ap (bit_xor (get_or s k 0)) (get_or-replicate 16 k 0 0 l) ∙ xor_zero_r (get_or s k 0))))

pub two_rounds : (c : ℕ) (q d e f : List ℕ) → c < 2 ^ 64
    → transposed (laid d) ≡ map linear (transposed (laid q))
    → transposed (laid e) ≡ map nonlinear (transposed (laid d))
    → laid f ≡ map nonlinear (map linear (laid (added c e)))
    → TwoRounds c (laid q) (laid f)
two_rounds c q d e f hc g h k even odd z p =
    let none : flipped even (laid q) ≡ laid q = flipped_none even (laid q) z (rows_laid q) in
    let first : transposed (laid e) ≡ round even (laid q) =
    h ∙ ap (map nonlinear) (g ∙ ap (λ s. map linear (transposed s)) (sym none)) in
    k ∙ ap (λ s. map nonlinear (map linear s)) (sym (added_transposed c odd e hc p))
    ∙ ap (λ s. map nonlinear (map linear (transposed (flipped odd s)))) first
