use Rattle.std.proofs.Common.{◌≡◌, ℕ, map}
use Rattle.std.specs.List.{range_with_len}
use Rattle.cbeam.specs.Permutation.{constants, rounds}
use Rattle.cbeam.proofs.plain.rounds.first_rounds.Given as goal

abbrev pub invariant-loop-constant : goal.invariant-loop-constant
invariant-loop-constant l =
    (count : ℕ) → l.table ≡ map constants (range_with_len 0 count) → l.rows ≡ rounds l.constant-index l.initial.rows
