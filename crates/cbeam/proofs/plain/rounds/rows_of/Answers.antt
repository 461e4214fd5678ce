use Rattle.std.proofs.Common.{rules}
use Rattle.cbeam.specs.Permutation.{row_of, rows_of}
use Rattle.engine.proofs.Made.{made}
use Rattle.cbeam.proofs.plain.rounds.rows_of.Goals as goal

pub returns : goal.returns
unfolding rows_of
returns c = made _ (row_of c.args.bytes.now) 16 (λ i y q h k. search rules) c.from_fn.ensures.items
