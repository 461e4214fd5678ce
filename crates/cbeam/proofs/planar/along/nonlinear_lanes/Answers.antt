use Rattle.std.proofs.Common.{ℕ, arith}
use Rattle.cbeam.specs.Bits.{bit}
use Rattle.cbeam.proofs.AlongNonlinear.{along_nonlinear_lane, rotated_turned}
use Rattle.cbeam.proofs.planar.along.nonlinear_lanes.Goals as goal

pub returns : goal.returns
unfolding bit
returns c =
    let x : ℕ = c.args.x in
    along_nonlinear_lane x _ _ _ _ c.phi5.result
    (rotated_turned 1 _ _ (omega arith) tt x) (rotated_turned 2 _ _ (omega arith) tt x)
    (rotated_turned 3 _ _ (omega arith) tt x) (rotated_turned 4 _ _ (omega arith) tt x)
    c.phi5.ensures
