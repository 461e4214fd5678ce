-- What reading the head of a script finds.
use Rattle.std.specs.Prelude.{◌≡◌, ℕ, ◌≤◌, true, List, [], length, drop, slice_index}
use Rattle.link.specs.Questions.{passed, stopped}
use Rattle.bench.specs.declared.command.Command.{Command}
use Rattle.bench.specs.declared.stop.Stop.{Stop}
use Rattle.bench.specs.Commands.{known, size, command_of}
use Rattle.bench.specs.Pools.{lies, room}
use Rattle.bench.specs.Refusals.{stop_number}
use Rattle.bench.specs.Runs.{verdict_at}

-- a command, and what follows it
pub record Read (script : List ℕ) (c : Command) (rest : List ℕ) : Type 0 where
  pub named : known (slice_index script 0) ≡ true
  pub whole : size (slice_index script 0) ≤ length script
  pub is : command_of script ≡ c
  pub behind : rest ≡ drop (size (slice_index script 0)) script

-- no command, whatever pool and listing there are
abbrev pub Unread : List ℕ → Stop → Type 0
Unread script stop = (pool free : ℕ) → verdict_at pool free script ≡ stopped (stop_number stop) []

-- a command that passed its questions, and what follows it
pub record Admitted (pool free : ℕ) (script : List ℕ) (c : Command) (rest : List ℕ) : Type 0 where
  pub passes : verdict_at pool free script ≡ passed
  pub lie : lies pool c ≡ true
  pub fits : room c ≤ free
  pub whole : size (slice_index script 0) ≤ length script
  pub is : command_of script ≡ c
  pub behind : rest ≡ drop (size (slice_index script 0)) script
