use Rattle.std.proofs.Common.{◌≡◌, get_or, sym, ◌∙◌, arith, rules, ext_get_or}
use Rattle.engine.proofs.Made.{numbered}
use Rattle.engine.proofs.whole_state.read_state.Goals as goal

pub returns : goal.returns
returns g c =
    let bytes = g.E.Engine.bytes c.args.engine.now in
    let items = c.from_fn.ensures.items in
    ext_get_or 0 c.from_fn.result bytes (items.long ∙ sym (g.met.E.Engine.state c.args.engine.now).long)
    (λ k l. numbered _ (λ k y. y ≡ get_or bytes k 0) 32 (λ k y q h called. search rules) items k (omega (arith, items.long)))
