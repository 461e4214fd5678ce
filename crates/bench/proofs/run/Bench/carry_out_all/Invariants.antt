use Rattle.std.proofs.Common.{length}
use Rattle.bench.specs.Steps.{state, Same}
use Rattle.bench.proofs.Underway.{Going}
use Rattle.bench.proofs.run.Bench.carry_out_all.Given as goal

abbrev pub invariant-loop-rest : goal.invariant-loop-rest
invariant-loop-rest g l =
    let m = g.E.Engine in
    Going m.mixing l.fn.self.pool.now l.script
    (state m.bytes m.budget l.fn.self) (state m.bytes m.budget l.self) l.rest
    × Same l.fn.self l.self

abbrev pub decreases-loop-rest : goal.decreases-loop-rest
decreases-loop-rest g l = length l.rest
