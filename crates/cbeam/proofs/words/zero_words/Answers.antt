use Rattle.cbeam.proofs.StateBytes.{byte_zero}
use Rattle.cbeam.proofs.words.zero_words.Goals as goal

pub returns : goal.returns
returns g c =
    byte_zero g.W.Word.value g.row.N g.W.Word.BYTES g.met.W.Permuted.whole g.W.Permuted.bytes g.met.W.Permuted.in_order
    c.from.result (g.met.W.Word.from_byte _ _ c.from.ensures)
