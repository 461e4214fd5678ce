-- The numbers of what refuses a run or a job, and of what stops a run.
use Rattle.std.specs.Prelude.{ℕ, List, [], ◌∷◌, Ok, Err, Result}
use Rattle.bench.specs.declared.refusal.RunRefusal.{RunRefusal}
use Rattle.bench.specs.declared.refusal.RunRefusal.TheVariants.{ScriptLength, ListingLength}
use Rattle.bench.specs.declared.refusal.JobRefusal.{JobRefusal}
use Rattle.bench.specs.declared.refusal.JobRefusal.TheVariants.{Run, Malformed}
use Rattle.bench.specs.declared.stop.Stop.{Stop}
use Rattle.bench.specs.declared.stop.Stop.TheVariants.{UnknownCommand, OperandsCut, OutsidePool, ListingFull}

-- what a run or a job tells: the length of its listing, or a refusal's number and values
pub data Told : Type 0 where
  listed : (length : ℕ) → Told
  refused : (number : ℕ) (values : List ℕ) → Told

abbrev pub run_refusal : RunRefusal → Told
run_refusal ScriptLength = refused 11 []
run_refusal ListingLength = refused 12 []

-- with 16 the length of the listing, which is one line, is told too
abbrev pub job_refusal : JobRefusal → Told
job_refusal (Run e) = run_refusal e
job_refusal (Malformed n) = refused 16 (n ∷ [])

abbrev pub told : {E : Type 0} → (E → Told) → Result ℕ E → Told
told refusal (Ok n) = listed n
told refusal (Err e) = refusal e

abbrev pub stop_number : Stop → ℕ
stop_number ListingFull = 12
stop_number UnknownCommand = 13
stop_number OperandsCut = 14
stop_number OutsidePool = 15
