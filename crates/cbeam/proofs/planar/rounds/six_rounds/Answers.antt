use Rattle.std.proofs.Common.{◌≡◌, ℕ, suc, ◌+◌, ◌*◌, ap, ◌∙◌, arith}
use Rattle.cbeam.specs.Bits.{bit}
use Rattle.cbeam.specs.Permutation.{round, rounds}
use Rattle.cbeam.specs.Words.{laid}
use Rattle.cbeam.proofs.PackedConstants.{packed_odd}
use Rattle.cbeam.proofs.planar.rounds.six_rounds.Goals as goal

pub loop-constant-preserved : goal.loop-constant-preserved
unfolding bit
loop-constant-preserved c =
    let k : ℕ = c.loop-constant.constant-index in
    let next : suc (suc (2 * k)) ≡ 2 * (k + 1) = omega arith in
    c.two_rounds-words.ensures (2 * k) (suc (2 * k)) (omega arith) (packed_odd k (omega arith))
    ∙ ap (λ s. round (suc (2 * k)) (round (2 * k) s)) c.loop-constant.invariant
    ∙ ap (λ n. rounds n (laid c.args.words)) next
