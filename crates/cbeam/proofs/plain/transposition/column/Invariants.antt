use Rattle.std.proofs.Common.{◌≡◌, get_or}
use Rattle.cbeam.specs.Bits.{bit, word}
use Rattle.cbeam.proofs.plain.transposition.column.Given as goal

abbrev pub invariant-loop-j : goal.invariant-loop-j
invariant-loop-j l = l.x ≡ word l.j (λ k. bit (get_or l.rows k 0) l.i)
