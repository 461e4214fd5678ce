use Rattle.std.proofs.Common.{arith}
use Rattle.bench.specs.Steps.{state}
use Rattle.bench.proofs.Replies.{few_told}
use Rattle.bench.proofs.Stages.{did_for, after_call}
use Rattle.bench.proofs.run.Bench.carry_out.Goals as goal

pub answer_line-requires-clause-room : goal.answer_line-requires-clause-room
answer_line-requires-clause-room g c =
    let work = c.args.self.now.work.now in
    let d = did_for c.call-answer.ensures.did (c.requires.is work) in
    omega (arith, c.requires.room, few_told c.args.self.now.pool.now work c.args.command d)

pub returns-clause-did : goal.returns-clause-did
returns-clause-did g c =
    let m = g.E.Engine in
    let pool = c.args.self.now.pool.now in
    let s = state m.bytes m.budget c.args.self.now in
    let d = did_for c.call-answer.ensures.did (c.requires.is s.work) in
    let line = c.answer_line.ensures in
    let few = few_told pool s.work c.args.command d in
    record {
      made = after_call pool c.args.command s _ d line.text;
      text = _;
      adds = line.text;
      spare = omega (arith, c.requires.room, few, line.short, line.text.long);
    }
