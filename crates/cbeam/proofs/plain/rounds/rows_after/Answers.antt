use Rattle.std.proofs.Common.{◌≡◌, ap, ◌∙◌, rules}
use Rattle.cbeam.specs.Permutation.{rows_of, rounds}
use Rattle.cbeam.proofs.Constants.{first_of_table}
use Rattle.cbeam.proofs.plain.rounds.rows_after.Goals as goal

pub returns : goal.returns
returns c =
    let within = c.in_ok-table.ensures.lookup.0 in
    let same : c.first_rounds.result ≡ rounds c.args.count (rows_of c.args.bytes.now) =
    c.first_rounds.ensures c.args.count (within.2 ∙ first_of_table c.args.count within.1) ∙ ap (rounds c.args.count) c.rows_of.ensures in
    search rules
