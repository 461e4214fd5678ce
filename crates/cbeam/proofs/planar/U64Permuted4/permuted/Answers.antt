use Rattle.std.proofs.Common.{sym, ap, ◌∙◌}
use Rattle.cbeam.specs.Permutation.{bytes_of}
use Rattle.cbeam.specs.Words.{laid}
use Rattle.cbeam.proofs.Permuted.{pi_rows}
use Rattle.cbeam.proofs.planar.U64Permuted4.permuted.Goals as goal

pub returns : goal.returns
returns c = ap bytes_of c.six_rounds.ensures ∙ sym (pi_rows (laid c.args.words))
