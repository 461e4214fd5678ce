use Rattle.std.proofs.Common.{◌++◌, take, sym, ap, ◌∙◌, arith}
use Rattle.std.proofs.lemmas.List.{drop_more, drop_all, take_more_set, take_all, length-set}
use Rattle.link.proofs.Runs.{Byte, going_more, going_all}
use Rattle.link.proofs.blocks.tell.Goals as goal

pub loop-k-preserved : goal.loop-k-preserved
loop-k-preserved g c =
    let k = c.loop-k.k in
    let out = c.loop-k.out in
    let y = c.treat.result in
    let inv = c.loop-k.invariant in
    let t = c.next-i.ensures in
    let x = c.treat.ensures in
    let rest = drop_more c.args.input.now k 0 (omega arith) in
    let told = take_more_set out k y (omega arith) ∙ ap (λ q. take k out ++ q) (sym x.told) in
    let byte : Byte g.E.Engine.mixing g.O.Operation.op c.args.pad _ _ _ _ _ _ _ =
    record { at = t.at; on = t.done; ready = cc (t.bytes, inv.1); left = x.bytes } in
    (length-set out k y ∙ inv.0, t.pad ∙ inv.1, going_more byte inv.2 rest told t.budget x.budget)

pub returns : goal.returns
returns g c =
    let k = c.loop-k.k in
    let none = drop_all k c.args.input.now (omega arith) in
    let all = take_all k c.loop-k.out (omega arith) in
    let inv = c.loop-k.invariant in
    let f = c.finish.ensures in
    let r = going_all inv.2 none (cc (f.bytes, inv.1)) f.budget in
    record { bytes = r.0; budget = r.1; told = sym all ∙ r.2 }
