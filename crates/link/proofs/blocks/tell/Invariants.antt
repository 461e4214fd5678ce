use Rattle.std.proofs.Common.{◌≡◌, length, take, drop}
use Rattle.link.proofs.Runs.{Going}
use Rattle.link.proofs.blocks.tell.Given as goal

abbrev pub invariant-loop-k : goal.invariant-loop-k
invariant-loop-k g l =
    let m = g.E.Engine in
    (length l.out ≡ length l.input)
    × (l.block.pad ≡ l.pad)
    × Going m.mixing g.O.Operation.op l.pad l.input (m.bytes l.initial.e) (m.budget l.initial.e)
    (take l.k l.out) (drop l.k l.input) l.block.done (m.bytes l.e) (m.budget l.e)
