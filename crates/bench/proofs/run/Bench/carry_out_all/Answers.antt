use Rattle.std.proofs.Common.{◌≡◌, ℕ, ◌<◌, Bool, true, false, eqb, length, sym, ◌∙◌, arith, rules, ap, List, Bor}
use Rattle.std.proofs.lemmas.Bool.{eqb-true}
use Rattle.std.proofs.lemmas.Bool.Decides.{nat_tests}
use Rattle.bench.specs.Refusals.{stop_number}
use Rattle.bench.specs.Texts.{ending_line}
use Rattle.bench.proofs.Underway.{going_more, going_stayed, run_stopped, run_ended}
use Rattle.bench.proofs.run.Bench.carry_out_all.Goals as goal

none : (n : ℕ) (b : Bool) → b ≡ eqb n 0 → b ≡ true → n ≡ 0
none n b is holds = eqb-true n 0 (sym is ∙ holds)

some : (n : ℕ) (b : Bool) → b ≡ eqb n 0 → b ≡ false → 0 < n
some n b is fails = grind (arith, nat_tests)

pub loop-rest-preserved : goal.loop-rest-preserved
loop-rest-preserved g c =
    let pool = ap (λ (p : Bor (List ℕ)). p.now) c.loop-rest.invariant.1.pool in
    (going_more c.loop-rest.invariant.0 (rw pool at c.in-Ok.ensures.did), search rules)

pub returns-in-Err-clause-did : goal.returns-in-Err-clause-did
returns-in-Err-clause-did g c =
    let pool = ap (λ (p : Bor (List ℕ)). p.now) c.loop-rest.invariant.1.pool in
    let stayed = going_stayed c.loop-rest.invariant.0 (rw pool at c.in-Err.ensures.did) in
    let left = some (length c.loop-rest.rest.now) c.is_empty.result c.is_empty.ensures c.loop-rest-test.true in
    run_stopped stayed.0 (stop_number c.in-Err.stop) left stayed.1 c.stop_line.ensures

pub returns-clause-did : goal.returns-clause-did
unfolding ending_line
returns-clause-did g c =
    let done = none (length c.loop-rest.rest.now) c.is_empty.result c.is_empty.ensures c.loop-rest-test.false in
    run_ended c.loop-rest.invariant.0 done c.word.ensures
