use Rattle.std.proofs.Common.{◌≡◌, get_or, rules}
use Rattle.cbeam.specs.Permutation.{linear, nonlinear}
use Rattle.cbeam.proofs.Cells.{mapped_twice}
use Rattle.engine.proofs.Made.{numbered}
use Rattle.cbeam.proofs.plain.rounds.stepped_rows.Goals as goal

pub returns : goal.returns
returns c =
    mapped_twice nonlinear linear c.args.rows.now c.from_fn.result c.told-rows c.from_fn.ensures.items.long
    (numbered _ (λ k y. y ≡ nonlinear (linear (get_or c.args.rows.now k 0))) 16 (λ i y q h k. search rules) c.from_fn.ensures.items)
