use Rattle.std.proofs.Common.{◌≡◌, ℕ, ◌-◌, ◌*◌, ◌^◌}
use Rattle.cbeam.proofs.Formula.{formula, formula_bits}
use Rattle.cbeam.proofs.phi.phi5.Goals as goal

pub returns : goal.returns
returns g c =
    let v = g.W.Word.value in
    let l = g.met.W.Word in
    let w : ℕ = 8 * g.W.Word.BYTES in
    let e : v c.bitxor-2.result ≡ formula (2 ^ w - 1) (v c.args.x0) (v c.args.x1) (v c.args.x2) (v c.args.x3) (v c.args.x4) =
    cc (
      l.xor _ _ _ c.bitxor.ensures,
      l.xor _ _ _ c.bitxor-2.ensures,
      l.or _ _ _ c.bitor.ensures,
      l.and _ _ _ c.bitand.ensures,
      l.and _ _ _ c.bitand-2.ensures,
      l.and _ _ _ c.bitand-3.ensures,
      l.and _ _ _ c.bitand-4.ensures,
      l.and _ _ _ c.bitand-5.ensures,
      l.and _ _ _ c.bitand-6.ensures,
      l.and _ _ _ c.bitand-7.ensures,
      l.complement _ _ c.not.ensures,
      l.complement _ _ c.not-2.ensures,
      l.complement _ _ c.not-3.ensures,
      l.complement _ _ c.not-4.ensures,
      l.complement _ _ c.not-5.ensures,
      l.complement _ _ c.not-6.ensures,
    ) in
    formula_bits w _ (v c.args.x0) (v c.args.x1) (v c.args.x2) (v c.args.x3) (v c.args.x4)
    c.requires.x0 c.requires.x2 c.requires.x3 e
