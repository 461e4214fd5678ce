use Rattle.std.proofs.Common.{refl, ◌∙◌, arith}
use Rattle.std.proofs.lemmas.List.{drop_more, drop_all}
use Rattle.link.specs.Blocks as op
use Rattle.link.proofs.Runs.{Byte, going_more, going_all}
use Rattle.link.proofs.blocks.put.Goals as goal

pub loop-b-preserved : goal.loop-b-preserved
loop-b-preserved g c =
    let rest = drop_more c.args.input.now c.loop-b.b-index 0 (omega arith) in
    let inv = c.loop-b.invariant in
    let t = c.next-i.ensures in
    let x = c.xor_at.ensures in
    let byte : Byte g.E.Engine.mixing op.put c.args.pad _ _ _ _ _ _ _ =
    record { at = t.at; on = t.done; ready = cc (t.bytes, inv.0); left = x.bytes } in
    (t.pad ∙ inv.0, going_more byte inv.1 rest refl t.budget x.budget)

pub returns : goal.returns
returns g c =
    let none = drop_all c.loop-b.b-index c.args.input.now (omega arith) in
    let inv = c.loop-b.invariant in
    let f = c.finish.ensures in
    let r = going_all inv.1 none (cc (f.bytes, inv.0)) f.budget in
    record { bytes = r.0; budget = r.1 }
