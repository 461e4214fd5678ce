use Rattle.std.proofs.Common.{take}
use Rattle.bench.specs.Texts.{hex}
use Rattle.bench.specs.Writing.{Adds}
use Rattle.bench.proofs.listing.Listing.hex.Given as goal

abbrev pub invariant-loop-b : goal.invariant-loop-b
invariant-loop-b l = Adds l.initial.self (hex (take l.b-index l.bytes)) l.self
