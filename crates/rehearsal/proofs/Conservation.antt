-- Mixings are conserved.
use Rattle.std.proofs.Common.{◌≡◌, ℕ, List, refl, ap, ◌∙◌}
use Rattle.link.specs.Calls.{Call, Reply}
use Rattle.link.specs.Steps.{View}
use Rattle.rehearsal.specs.Model.{Model, idle, live, left_of, shown}
use Rattle.rehearsal.specs.Laws.{Modelled, Conserved}
use Rattle.rehearsal.proofs.Points.{counted_run}

left_shown : (mix : List ℕ → List ℕ) (m : Model) (bytes : List ℕ) → (shown mix m bytes).left ≡ left_of m
left_shown mix (idle left) bytes = refl
left_shown mix (live left key nonce ts) bytes = refl

pub conserved :
    {mix : List ℕ → List ℕ} {given : ℕ} {cs : List Call} {rs : List Reply} {e : View} →
    Modelled mix given cs rs e → Conserved given cs rs e.left
conserved {mix} k =
    rw (ap (λ (v : View). v.left) k.stands ∙ left_shown mix k.model k.bytes) (counted_run mix k.runs)
