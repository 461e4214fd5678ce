-- The table of the constants, and that only the odd rounds have one.
use Rattle.std.proofs.Common.{◌≡◌, ℕ, ◌-◌, ◌≤◌, List, map, replicate, take, ap, ◌∙◌, arith, zero-mul}
use Rattle.std.specs.List.{range_with_len, slice_range}
use Rattle.std.proofs.lemmas.List.FromFn.{take-map-range_with_len}
use Rattle.cbeam.specs.Bits.{bit}
use Rattle.cbeam.specs.Permutation.{constants}
use Rattle.cbeam.specs.declared.plain.constant.TheConstants.{CONSTANTS}

pub even_none : (r : ℕ) → bit r 0 ≡ 0 → constants r ≡ replicate 16 0
unfolding constants
even_none r e = simp (e, zero-mul)

-- the constants of the first n rounds
abbrev pub first_constants : ℕ → List (List ℕ)
first_constants n = map constants (range_with_len 0 n)

pub first_of_table : (n : ℕ) → n ≤ 6 → slice_range CONSTANTS 0 n ≡ first_constants n
unfolding constants bit
first_of_table n h =
    let e : n - 0 ≡ n = omega arith in
    ap (λ k. take k CONSTANTS) e ∙ take-map-range_with_len constants 0 6 n h
