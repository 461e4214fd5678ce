use Rattle.std.proofs.Common.{◌≡◌, ℕ, List, [], length, get_or, ap, ◌∙◌, arith, add-one}
use Rattle.std.proofs.lemmas.List.FromFn.{length-map-range_with_len, get_or-map-range_with_len}
use Rattle.cbeam.specs.Permutation.{constants, round, rounds}
use Rattle.cbeam.proofs.plain.rounds.first_rounds.Goals as goal

pub loop-constant-preserved : goal.loop-constant-preserved
loop-constant-preserved c count is =
    let k : ℕ = c.loop-constant.constant-index in
    let long : length c.args.table.now ≡ count = ap length is ∙ length-map-range_with_len constants 0 count in
    let at : get_or c.args.table.now k [] ≡ constants k =
    ap (λ (t : List (List ℕ)). get_or t k []) is
    ∙ get_or-map-range_with_len constants 0 count k k [] (omega arith) (omega arith) in
    simp add-one (c.one_round-rows.ensures k at ∙ ap (round k) (c.loop-constant.invariant count is))

pub returns : goal.returns
returns c count is =
    let long : length c.args.table.now ≡ count = ap length is ∙ length-map-range_with_len constants 0 count in
    let all : c.loop-constant.constant-index ≡ count = omega arith in
    c.loop-constant.invariant count is ∙ ap (λ n. rounds n c.args.rows) all
