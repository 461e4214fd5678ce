use Rattle.std.proofs.Common.{[], ◌∷◌, ◌++◌, codes}
use Rattle.link.specs.Calls.{answer_of}
use Rattle.bench.specs.Commands.{opcode}
use Rattle.bench.specs.Texts.{hex, answer_text, told_line}
use Rattle.bench.proofs.Additions.{adds_then}
use Rattle.bench.proofs.listing.Listing.answer_line.Goals as goal

pub returns-clause-text : goal.returns-clause-text
unfolding told_line
returns-clause-text c =
    let answer = answer_text (answer_of c.args.answer) c.args.output.now in
    let head = rw c.opcode.ensures at c.hex.ensures in
    let told = adds_then (codes " ") c.word.ensures answer c.answer.ensures.text in
    let all = adds_then (hex (opcode c.args.command ∷ [])) head (codes " " ++ answer) told in
    adds_then _ all (codes "\n") c.word-2.ensures
