-- What one command of a run leaves, and what all of them do.
use Rattle.std.specs.Prelude.{◌≡◌, ℕ, ◌≤◌, List, [], length, drop, slice_index}
use Rattle.link.specs.Questions.{passed, stopped}
use Rattle.link.specs.Steps.{View, view}
use Rattle.bench.specs.declared.command.Command.{Command}
use Rattle.bench.specs.declared.listing.Listing.{Listing}
use Rattle.bench.specs.declared.run.Bench.{Bench}
use Rattle.bench.specs.declared.stop.Stop.{Stop}
use Rattle.bench.specs.Commands.{size, command_of}
use Rattle.bench.specs.Refusals.{stop_number}
use Rattle.bench.specs.Runs.{verdict_at, entries, Stage, after_command, after_entries}
use Rattle.bench.specs.Writing.{Adds, Room, text_of, free}

-- the state of a run: what its endpoint shows, its work area, and its listing
pub record State : Type 0 where
  pub view : View
  pub work : List ℕ
  pub listing : Listing

abbrev pub state : {E : Type 0} → (E → List ℕ) → (E → ℕ) → Bench E → State
state bytes budget b = record { view = view bytes budget b.endpoint.now; work = b.work.now; listing = b.listing.now }

-- the bench has the pool and the references that it had
pub record Same {E : Type 0} (b b' : Bench E) : Type 0 where
  pub endpoint : b'.endpoint.ghost_name ≡ b.endpoint.ghost_name
  pub pool : b'.pool ≡ b.pool
  pub work : b'.work.ghost_name ≡ b.work.ghost_name
  pub listing : b'.listing.ghost_name ≡ b.listing.ghost_name

-- the stage of a run in that state
abbrev pub stage : State → Stage
stage s = record { view = s.view; work = s.work; text = text_of s.listing }

-- The state before it is s, and the state after it s'.

-- a command was carried out, and its line added
pub record Carried (mix : List ℕ → List ℕ) (pool : List ℕ) (c : Command) (s s' : State) : Type 0 where
  pub made : stage s' ≡ after_command mix pool c (stage s)
  pub text : List ℕ
  pub adds : Adds s.listing text s'.listing
  pub spare : Room s'.listing 30

-- the command at the head of `rest` passed its questions and was carried out; `more` follows it
pub record Went (mix : List ℕ → List ℕ) (pool rest : List ℕ) (s s' : State) (more : List ℕ) : Type 0 where
  pub passes : verdict_at (length pool) (free s.listing) rest ≡ passed
  pub carried : Carried mix pool (command_of rest) s s'
  pub whole : size (slice_index rest 0) ≤ length rest
  pub behind : more ≡ drop (size (slice_index rest 0)) rest

-- a question was answered no, and nothing was altered
pub record Stayed (pool rest : List ℕ) (s s' : State) (stop : Stop) : Type 0 where
  pub stops : verdict_at (length pool) (free s.listing) rest ≡ stopped (stop_number stop) []
  pub same : s' ≡ s

-- the script was carried out, as far as it goes, and the last line added
pub record Lines (mix : List ℕ → List ℕ) (pool script : List ℕ) (s s' : State) : Type 0 where
  pub made : stage s' ≡ after_entries mix pool (length s.listing.bytes.now) (entries 0 0 script) (stage s)
  pub long : length s'.listing.bytes.now ≡ length s.listing.bytes.now
  pub same : s'.listing.bytes.ghost_name ≡ s.listing.bytes.ghost_name
  pub kept : drop s'.listing.used s'.listing.bytes.now ≡ drop s'.listing.used s.listing.bytes.now
