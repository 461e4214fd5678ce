use Rattle.rehearsal.specs.Laws.{Rehearsed}
use Rattle.rehearsal.proofs.Rehearsals.{modelled}
use Rattle.rehearsal.proofs.Openings.{exact}
use Rattle.rehearsal.proofs.Conservation.{conserved}
use Rattle.rehearsal.proofs.InStep.{in_step}
use Rattle.rehearsal.proofs.rehearse.rehearse_one.Goals as goal

pub returns : goal.returns
returns g c =
    let M = g.met.E.Engine.keeps in
    let ran = c.run.ensures in
    let k = modelled _ M _ _ _ ran.inputs _ _ _ c.new-endpoint.ensures ran.told ran.shows in
    let h : Rehearsed _ _ _ _ = record { mixes = M; inputs = ran.inputs; model = k.model; runs = k.runs } in
    record {
      requests = ran.requests;
      modelled = k;
      exact = exact _ k.runs;
      conserved = conserved k;
      rehearsed = h;
      in_step = λ mix given cs rs other. in_step _ mix h other;
    }
