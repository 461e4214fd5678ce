use Rattle.std.proofs.Common.{codes, decimal}
use Rattle.bench.specs.Refusals.{stop_number}
use Rattle.bench.specs.Texts.{ending_line}
use Rattle.bench.proofs.Additions.{adds_then}
use Rattle.bench.proofs.listing.Listing.stop_line.Goals as goal

pub returns : goal.returns
unfolding ending_line
returns c =
    let number = rw c.number.ensures at c.number-2.ensures.text in
    let place = adds_then (codes " at ") c.word-2.ensures (decimal c.args.place) c.number-3.ensures.text in
    let rest = adds_then (decimal (stop_number c.args.stop)) number _ place in
    adds_then _ (adds_then (codes "stop ") c.word.ensures _ rest) (codes "\n") c.word-3.ensures
