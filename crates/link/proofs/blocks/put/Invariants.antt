use Rattle.std.proofs.Common.{◌≡◌, [], drop}
use Rattle.link.specs.Blocks as op
use Rattle.link.proofs.Runs.{Going}
use Rattle.link.proofs.blocks.put.Given as goal

abbrev pub invariant-loop-b : goal.invariant-loop-b
invariant-loop-b g l =
    let m = g.E.Engine in
    (l.block.pad ≡ l.pad)
    × Going m.mixing op.put l.pad l.input (m.bytes l.initial.e) (m.budget l.initial.e)
    [] (drop l.b-index l.input) l.block.done (m.bytes l.e) (m.budget l.e)
