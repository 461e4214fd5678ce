use Rattle.link.specs.Steps.{view}
use Rattle.rehearsal.proofs.Turns.{Sofar}
use Rattle.rehearsal.proofs.run.run.Given as goal

abbrev pub invariant-loop-exchange : goal.invariant-loop-exchange
invariant-loop-exchange g l =
    let m = g.E.Engine in
    Sofar m.mixing
    (view m.bytes m.budget l.initial.endpoint) l.initial.exchanges
    (view m.bytes m.budget l.endpoint) l.exchanges l.exchange-index
