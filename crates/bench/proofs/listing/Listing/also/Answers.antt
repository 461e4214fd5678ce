use Rattle.std.proofs.Common.{codes, decimal}
use Rattle.bench.proofs.Additions.{adds_then}
use Rattle.bench.proofs.listing.Listing.also.Goals as goal

pub returns-clause-text : goal.returns-clause-text
returns-clause-text c = adds_then (codes " ") c.word.ensures (decimal c.args.n) c.number.ensures.text
