use Rattle.std.proofs.Common.{◌*◌, map, ap, sym, ◌∙◌, rules}
use Rattle.cbeam.specs.Permutation.{bytes_in}
use Rattle.cbeam.proofs.StateBytes.{byte_set}
use Rattle.cbeam.proofs.words.with_byte.Goals as goal

pub returns : goal.returns
returns g c =
    let e = c.BYTES-bytes.ensures in
    let l = g.met.W.Word in
    byte_set g.W.Word.value g.row.N c.BYTES-bytes.result (ap (λ n. g.row.N * n) e ∙ g.met.W.Permuted.whole)
    g.W.Permuted.bytes
    (λ ws. g.met.W.Permuted.in_order ws ∙ ap (λ n. bytes_in n (map g.W.Word.value ws)) (sym e))
    c.args.words c.args.place.index c.args.value c.bitxor.result c.index-words-place.result (search rules) c.args.place.within
    c.ranges.value.fits
    (cc (
      l.xor _ _ _ c.bitxor.ensures,
      l.shift_left _ _ _ c.shl.ensures,
      l.from_byte _ _ c.from.ensures,
      c.low_byte.ensures,
      l.shift_right _ _ _ c.shr.ensures,
      e,
    ))
