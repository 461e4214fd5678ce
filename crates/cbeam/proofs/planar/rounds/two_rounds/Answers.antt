use Rattle.std.proofs.Common.{map, ap, ◌∙◌}
use Rattle.cbeam.specs.Permutation.{linear, nonlinear}
use Rattle.cbeam.specs.Words.{laid}
use Rattle.cbeam.proofs.WordRounds.{two_rounds}
use Rattle.cbeam.proofs.planar.rounds.two_rounds.Goals as goal

pub returns : goal.returns
returns c =
    two_rounds c.args.constant c.args.words.now c.linear_down.result c.nonlinear_down-columns.result
    c.stepped_along.result c.ranges.constant.fits c.linear_down.ensures c.nonlinear_down-columns.ensures
    (c.stepped_along.ensures ∙ ap (λ q. map nonlinear (map linear (laid q))) c.with_constant.ensures)
