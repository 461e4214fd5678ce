use Rattle.std.proofs.Common.{rules}
use Rattle.cbeam.specs.Permutation.{flipped_row, flipped}
use Rattle.engine.proofs.Made.{made}
use Rattle.cbeam.proofs.plain.constant.with_constant.Goals as goal

pub returns : goal.returns
unfolding flipped
returns c number is =
    made _ (flipped_row number c.args.rows.now) 16 (λ i y q h k. search rules) c.from_fn.ensures.items
