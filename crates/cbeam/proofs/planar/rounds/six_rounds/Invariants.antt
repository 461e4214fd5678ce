use Rattle.std.proofs.Common.{◌≡◌, ◌*◌}
use Rattle.cbeam.specs.Permutation.{rounds}
use Rattle.cbeam.specs.Words.{laid}
use Rattle.cbeam.proofs.planar.rounds.six_rounds.Given as goal

abbrev pub invariant-loop-constant : goal.invariant-loop-constant
invariant-loop-constant l = laid l.words ≡ rounds (2 * l.constant-index) (laid l.initial.words)
