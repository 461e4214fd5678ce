-- The stage of a run after one command, and what one entry of it gives.
use Rattle.std.proofs.Common.{◌≡◌, ℕ, ◌-◌, List, [], ◌∷◌, ◌++◌, length, refl, subst, ap, ◌∙◌}
use Rattle.link.specs.Calls.{Call, Answer, Reply}
use Rattle.link.specs.Questions.{passed, stopped}
use Rattle.link.specs.Steps.{View, Did, reply, step}
use Rattle.bench.specs.declared.command.Command.{Command}
use Rattle.bench.specs.Commands.{command_of}
use Rattle.bench.specs.Pools.{call}
use Rattle.bench.specs.Runs.{verdict_at, Entry, Stage, with_line, after_command, after_entries}
use Rattle.bench.specs.Steps.{State, stage}
use Rattle.bench.specs.Texts.{told_line, line, ended, stopped_at, ending_line}
use Rattle.bench.specs.Writing.{Adds, text_of}
use Rattle.bench.proofs.Additions.{text_added}

-- what is said of a call is said of the call that it is equal to
pub did_for :
    {mix : List ℕ → List ℕ} {e e' : View} {k k' : Call} {a : Answer} {out : List ℕ} →
    Did mix e k a out e' → k ≡ k' → Did mix e k' a out e'
did_for {mix} {e} {e'} {k} {k'} {a} {out} d is = subst (λ (x : Call). Did mix e x a out e') is d

-- the stage after a command, by its call and its line
pub after_call :
    {mix : List ℕ → List ℕ} (pool : List ℕ) (c : Command) (s s' : State) {a : Answer} →
    Did mix s.view (call pool s.work c) a s'.work s'.view → Adds s.listing (line (told_line c (reply a s'.work))) s'.listing →
    stage s' ≡ after_command mix pool c (stage s)
unfolding after_command
after_call {mix} pool c s s' {a} d adds =
    let is : reply a s'.work ≡ (step mix s.view (call pool s.work c)).reply =
    λ i. record { answer = d.answers i; output = d.writes i } in
    let text = text_added _ adds ∙ ap (λ (r : Reply). text_of s.listing ++ line (told_line c r)) is in
    λ i. record { view = d.shows i; work = d.writes i; text = text i }

-- one entry of a run
module _ (mix : List ℕ → List ℕ) (pool : List ℕ) (long : ℕ) (e : Entry) (es : List Entry) (s : Stage) where
  pub after_passed :
      verdict_at (length pool) (long - length s.text) e.rest ≡ passed →
      after_entries mix pool long (e ∷ es) s ≡ after_entries mix pool long es (after_command mix pool (command_of e.rest) s)
  unfolding after_entries
  after_passed h = rw (h, after_entries) refl

  pub after_stopped :
      (n : ℕ) (vs : List ℕ) → verdict_at (length pool) (long - length s.text) e.rest ≡ stopped n vs →
      after_entries mix pool long (e ∷ es) s ≡ with_line s (ending_line (stopped_at n e.place))
  unfolding after_entries
  after_stopped n vs h = rw (h, after_entries) refl

pub after_none :
    (mix : List ℕ → List ℕ) (pool : List ℕ) (long : ℕ) (s : Stage) →
    after_entries mix pool long [] s ≡ with_line s (ending_line ended)
unfolding after_entries
after_none mix pool long s = refl
