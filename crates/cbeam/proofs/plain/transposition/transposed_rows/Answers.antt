use Rattle.std.proofs.Common.{rules}
use Rattle.cbeam.specs.Permutation.{transposed_row, transposed}
use Rattle.engine.proofs.Made.{made}
use Rattle.cbeam.proofs.plain.transposition.transposed_rows.Goals as goal

pub returns : goal.returns
unfolding transposed
returns c = made _ (transposed_row c.args.rows.now) 16 (λ i y q h k. search rules) c.from_fn.ensures.items
