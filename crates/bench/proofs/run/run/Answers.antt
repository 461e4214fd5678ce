use Rattle.std.proofs.Common.{rules, sym, refl, ap}
use Rattle.link.specs.Steps.{view}
use Rattle.bench.proofs.Runs.{script_too_long, listing_too_short, run_listed}
use Rattle.bench.proofs.run.run.Goals as goal

pub returns-then-script-gt-LONGEST_SCRIPT : goal.returns-then-script-gt-LONGEST_SCRIPT
returns-then-script-gt-LONGEST_SCRIPT g c = record {
  did =
      script_too_long g.E.Engine.mixing (view g.E.Engine.bytes g.E.Engine.budget c.args.endpoint.now)
      c.args.script.now c.args.pool.now c.args.work.now c.args.listing.now c.if-script-gt-LONGEST_SCRIPT.true;
}

pub returns-then-listing-lt-SHORTEST_LISTING : goal.returns-then-listing-lt-SHORTEST_LISTING
returns-then-listing-lt-SHORTEST_LISTING g c = record {
  did =
      listing_too_short g.E.Engine.mixing (view g.E.Engine.bytes g.E.Engine.budget c.args.endpoint.now)
      c.args.script.now c.args.pool.now c.args.work.now c.args.listing.now
      c.if-script-gt-LONGEST_SCRIPT.false c.if-listing-lt-SHORTEST_LISTING.true;
}

pub returns : goal.returns
returns g c =
    let m = g.E.Engine in
    let lines = c.carry_out_all.ensures.did in
    let same = c.carry_out_all.ensures.same in
    record {
      did =
          run_listed m.mixing (view m.bytes m.budget c.args.endpoint.now)
          c.args.script.now c.args.pool.now c.args.work.now c.args.listing.now
          c.if-script-gt-LONGEST_SCRIPT.false c.if-listing-lt-SHORTEST_LISTING.false refl refl refl refl lines
          (search (rules, sym same.listing)) (ap (view m.bytes m.budget) (search (rules, sym same.endpoint)))
          (search (rules, sym same.work)) (search (rules, sym lines.same));
    }
