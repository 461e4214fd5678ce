use Rattle.std.proofs.Common.{arith}
use Rattle.std.proofs.lemmas.Grind.{common_steps}
use Rattle.bench.proofs.script.read.Goals as goal

pub returns-in_default : goal.returns-in_default
returns-in_default c pool free = grind (arith, common_steps)
