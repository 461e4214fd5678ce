use Rattle.std.proofs.Common.{◌+◌, ◌%◌, get_or, rules}
use Rattle.cbeam.specs.Words.{DownColumns}
use Rattle.cbeam.proofs.DownNonlinear.{nonlinear_columns}
use Rattle.engine.proofs.Made.{numbered}
use Rattle.cbeam.proofs.planar.down.nonlinear_down.Goals as goal

pub returns : goal.returns
returns c =
    nonlinear_columns c.args.words.now c.from_fn.result (λ u h. search rules)
    (numbered _ (λ u y. DownColumns (get_or c.args.words.now u 0) (get_or c.args.words.now ((u + 3) % 4) 0) y)
    4 (λ u y q h k. search rules) c.from_fn.ensures.items)
