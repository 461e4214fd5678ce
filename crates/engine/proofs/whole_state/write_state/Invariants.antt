use Rattle.std.proofs.Common.{◌≡◌, ℕ, ◌<◌, length, get_or}
use Rattle.engine.proofs.whole_state.write_state.Given as goal

abbrev pub invariant-loop-place : goal.invariant-loop-place
invariant-loop-place g l =
    (g.E.Engine.budget l.engine ≡ g.E.Engine.budget l.initial.engine)
    × (length (g.E.Engine.bytes l.engine) ≡ 32)
    × ((k : ℕ) → k < l.place → get_or (g.E.Engine.bytes l.engine) k 0 ≡ get_or l.values k 0)
