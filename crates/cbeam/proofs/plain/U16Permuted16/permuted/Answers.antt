use Rattle.std.proofs.Common.{sym, ap, ◌∙◌, arith}
use Rattle.cbeam.specs.Permutation.{bytes_of}
use Rattle.cbeam.proofs.Constants.{first_of_table}
use Rattle.cbeam.proofs.Permuted.{pi_rows}
use Rattle.cbeam.proofs.plain.U16Permuted16.permuted.Goals as goal

pub returns : goal.returns
returns c = ap bytes_of (c.first_rounds.ensures 6 (first_of_table 6 (omega arith))) ∙ sym (pi_rows c.args.rows)
