use Rattle.std.proofs.Common.{refl, arith, rules}
use Rattle.std.proofs.lemmas.List.{with_items_is}
use Rattle.rehearsal.proofs.Turns.{sofar_none, sofar_more, all_requests, all_inputs, all_told, all_shows}
use Rattle.rehearsal.proofs.run.run.Goals as goal

pub loop-exchange-init : goal.loop-exchange-init
loop-exchange-init g c = sofar_none

pub loop-exchange-preserved : goal.loop-exchange-preserved
loop-exchange-preserved g c =
    sofar_more c.loop-exchange.invariant (omega arith) (omega arith) c.exchange-item.result _ c.perform.result _
    refl refl (search rules) (search (rules, with_items_is))

pub returns : goal.returns
returns g c =
    let s = c.loop-exchange.invariant in
    record {
      requests = all_requests s (omega arith) (omega arith);
      inputs = all_inputs s (omega arith) (omega arith);
      told = all_told s (omega arith) (omega arith);
      shows = all_shows s (omega arith) (omega arith);
    }
