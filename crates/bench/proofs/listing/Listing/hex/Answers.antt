use Rattle.std.proofs.Common.{take, arith}
use Rattle.bench.specs.Texts.{hex}
use Rattle.bench.proofs.Additions.{adds_none, adds_then}
use Rattle.bench.proofs.Hexadecimal.{hex_more, length-hex-take}
use Rattle.bench.proofs.listing.Listing.hex.Goals as goal

pub loop-b-init : goal.loop-b-init
loop-b-init c = adds_none _

pub word-requires : goal.word-requires
word-requires c =
    let inv = c.loop-b.invariant in
    let long = length-hex-take c.args.bytes.now c.loop-b.b-index c.loop-b.auto.b-index-end in
    omega (arith, c.requires, inv.used, inv.long, long)

pub loop-b-preserved : goal.loop-b-preserved
loop-b-preserved c =
    let bs = c.args.bytes.now in
    let i = c.loop-b.b-index in
    let digits = rw (c.digit.ensures, c.digit-in-loop-b.ensures) at c.word.ensures in
    rw (hex_more bs i c.loop-b-test.true) (adds_then (hex (take i bs)) c.loop-b.invariant _ digits)
