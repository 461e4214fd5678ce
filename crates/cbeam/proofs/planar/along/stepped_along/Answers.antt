use Rattle.std.proofs.Common.{ℕ, ◌<◌, rules, ◌≡◌}
use Rattle.cbeam.specs.Permutation.{linear, nonlinear}
use Rattle.cbeam.specs.Words.{lane}
use Rattle.cbeam.proofs.Cells.{along_rows}
use Rattle.engine.proofs.Made.{each}
use Rattle.cbeam.proofs.planar.along.stepped_along.Goals as goal

pub returns : goal.returns
returns c =
    along_rows nonlinear linear c.args.words.now c.map.result
    (each _ (λ x y. (m : ℕ) → m < 4 → lane y m ≡ nonlinear (linear (lane x m))) (λ x y q k. search rules) c.map.ensures.items)
