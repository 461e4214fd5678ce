use Rattle.std.proofs.Common.{◌*◌, map, ap, sym, ◌∙◌}
use lib.Bits.{bit_and}
use Rattle.cbeam.specs.Permutation.{bytes_in}
use Rattle.cbeam.proofs.StateBytes.{byte_told}
use Rattle.cbeam.proofs.words.byte_of.Goals as goal

pub returns : goal.returns
returns g c =
    let e = c.BYTES-bytes.ensures in
    c.low_byte.ensures
    ∙ ap (λ x. bit_and x 255) (g.met.W.Word.shift_right _ _ _ c.shr.ensures)
    ∙ byte_told g.W.Word.value g.row.N c.BYTES-bytes.result (ap (λ n. g.row.N * n) e ∙ g.met.W.Permuted.whole)
    g.W.Permuted.bytes
    (λ ws. g.met.W.Permuted.in_order ws ∙ ap (λ n. bytes_in n (map g.W.Word.value ws)) (sym e))
    c.args.words.now c.args.place.index _ c.told-words c.args.place.within
