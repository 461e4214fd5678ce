use Rattle.std.proofs.Common.{ℕ, List, get_or, refl, arith}
use Rattle.cbeam.specs.Bits.{bit, word}
use Rattle.cbeam.proofs.Bitwise.{bit_below}
use Rattle.cbeam.proofs.Gathering.{gather_more}
use Rattle.cbeam.proofs.plain.transposition.column.Goals as goal

pub loop-j-init : goal.loop-j-init
unfolding word
loop-j-init c = refl

pub loop-j-preserved : goal.loop-j-preserved
loop-j-preserved c =
    let s : List ℕ = c.args.rows.now in
    let i : ℕ = c.args.i in
    let j : ℕ = c.loop-j.j in
    gather_more (λ k. bit (get_or s k 0) i) c.loop-j.x (get_or s j 0) i j
    (λ k. bit_below (get_or s k 0) i) (omega arith) c.loop-j.invariant refl
