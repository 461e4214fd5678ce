-- Every answer and output is the model's.
use Rattle.std.proofs.Common.{◌≡◌, ℕ, List}
use Rattle.engine.specs.States.{Mixes}
use Rattle.link.specs.Calls.{Call, Reply}
use Rattle.link.specs.Steps.{View, fresh}
use Rattle.rehearsal.specs.Turns.{AllBytes, replies, view_after}
use Rattle.rehearsal.specs.Model.{idle}
use Rattle.rehearsal.specs.Laws.{Modelled}
use Rattle.rehearsal.proofs.Single.{single_run}
use Rattle.rehearsal.proofs.Simulation.{does_all}

module _ (mix : List ℕ → List ℕ) (M : Mixes mix) where
  all_modelled :
      (bytes : List ℕ) (given : ℕ) (cs : List Call) → AllBytes cs →
      Modelled mix given cs (replies mix (fresh bytes given) cs) (view_after mix (fresh bytes given) cs)
  all_modelled bytes given cs b =
      let all = does_all mix M cs (idle given) bytes tt b in
      record {
        model = all.model;
        bytes = all.rest;
        runs = all.runs;
        only = λ rs m r. single_run mix r all.runs;
        stands = all.stands;
      }

  -- the same of an endpoint that is new, and of replies and an endpoint then that are these
  pub modelled :
      (bytes : List ℕ) (given : ℕ) (cs : List Call) → AllBytes cs → (e : View) (rs : List Reply) (e' : View) →
      e ≡ fresh bytes given → rs ≡ replies mix e cs → e' ≡ view_after mix e cs → Modelled mix given cs rs e'
  modelled bytes given cs b e rs e' new told shows =
      rw (told, shows, new) (all_modelled bytes given cs b)
