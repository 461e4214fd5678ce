-- What a run does.
use Rattle.std.specs.Prelude.{◌≡◌, ℕ, zero, suc, ◌+◌, ◌-◌, List, [], ◌∷◌, ◌++◌, length, drop, nat_le, slice_index}
use Rattle.link.specs.Questions.{Question, ask, Verdict, passed, stopped, verdict}
use Rattle.link.specs.Steps.{View, step}
use Rattle.bench.specs.declared.command.Command.{Command}
use Rattle.bench.specs.Commands.{known, size, command_of}
use Rattle.bench.specs.Pools.{lies, call, room}
use Rattle.bench.specs.Refusals.{Told, listed, refused}
use Rattle.bench.specs.Texts.{told_line, line, ended, stopped_at, ending_line}

-- the questions at a command, in their order: `rest` is the script from there on, `pool` the pool's length, and so many
-- bytes are free in the listing
abbrev pub questions_at : (pool free : ℕ) → (rest : List ℕ) → List Question
questions_at pool free rest =
    ask 13 (known (slice_index rest 0))
    ∷ ask 14 (nat_le (size (slice_index rest 0)) (length rest))
    ∷ ask 15 (lies pool (command_of rest))
    ∷ ask 12 (nat_le (room (command_of rest)) free)
    ∷ []

-- the first of them that is answered no
abbrev pub verdict_at : (pool free : ℕ) → (rest : List ℕ) → Verdict
verdict_at pool free rest = verdict (questions_at pool free rest)

-- where a command may begin: a place, and the script from there on
pub record Entry : Type 0 where
  pub place : ℕ
  pub rest : List ℕ

-- the entries of a script from a place on, of which some bytes still belong to the command before
unfoldable pub entries : (skip place : ℕ) → List ℕ → List Entry
entries skip place [] = []
entries zero place (op ∷ rest) =
    record { place = place; rest = op ∷ rest } ∷ entries (size op - 1) (place + 1) rest
entries (suc k) place (byte ∷ rest) = entries k (place + 1) rest

-- what a run alters, with the text of the listing so far
pub record Stage : Type 0 where
  pub view : View
  pub work : List ℕ
  pub text : List ℕ

abbrev pub with_line : Stage → List ℕ → Stage
with_line s t = record { view = s.view; work = s.work; text = s.text ++ line t }

-- a command is carried out, and its line added
unfoldable pub after_command : (List ℕ → List ℕ) → (pool : List ℕ) → Command → Stage → Stage
after_command mix pool c s =
    let o = step mix s.view (call pool s.work c) in
    record { view = o.view; work = o.reply.output; text = s.text ++ line (told_line c o.reply) }

-- the commands at the entries, over a listing of so many bytes, and the last line
unfoldable pub after_entries : (List ℕ → List ℕ) → (pool : List ℕ) (long : ℕ) → List Entry → Stage → Stage
after_entries mix pool long [] s = with_line s (ending_line ended)
after_entries mix pool long (e ∷ es) s =
    elim (verdict_at (length pool) (long - length s.text) e.rest) [
      | passed ↦ after_entries mix pool long es (after_command mix pool (command_of e.rest) s)
      | stopped number values ↦ with_line s (ending_line (stopped_at number e.place))
    ]

-- the questions before a run begins
abbrev pub run_questions : (script listing : List ℕ) → List Question
run_questions script listing = ask 11 (nat_le (length script) 65536) ∷ ask 12 (nat_le 80 (length listing)) ∷ []

-- what a run tells, and what it leaves
pub record Ran : Type 0 where
  pub told : Told
  pub view : View
  pub work : List ℕ
  pub listing : List ℕ

-- the text stands at the head of the listing, and the bytes behind it are as they were
abbrev pub listing_with : List ℕ → Stage → Ran
listing_with listing s = record {
  told = listed (length s.text);
  view = s.view;
  work = s.work;
  listing = s.text ++ drop (length s.text) listing;
}

abbrev pub ran_by : Verdict → (List ℕ → List ℕ) → View → (script pool work listing : List ℕ) → Ran
ran_by passed mix e script pool work listing =
    listing_with listing
    (after_entries mix pool (length listing) (entries 0 0 script) (record { view = e; work = work; text = [] }))
ran_by (stopped number values) mix e script pool work listing =
    record { told = refused number values; view = e; work = work; listing = listing }

unfoldable pub ran : (List ℕ → List ℕ) → View → (script pool work listing : List ℕ) → Ran
ran mix e script pool work listing = ran_by (verdict (run_questions script listing)) mix e script pool work listing

-- What a contract says of a run: what it tells, and endpoint, work area and listing after it, are those of `ran`.
pub record RunDid
    (mix : List ℕ → List ℕ) (e : View) (script pool work listing : List ℕ)
    (told : Told) (e' : View) (work' listing' : List ℕ) : Type 0 where
  pub tells : told ≡ (ran mix e script pool work listing).told
  pub shows : e' ≡ (ran mix e script pool work listing).view
  pub works : work' ≡ (ran mix e script pool work listing).work
  pub lists : listing' ≡ (ran mix e script pool work listing).listing
