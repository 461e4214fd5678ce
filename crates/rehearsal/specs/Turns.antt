-- A list of calls at an endpoint, one step after another.
use Rattle.std.specs.Prelude.{ℕ, List, [], ◌∷◌}
use Rattle.link.specs.Calls.{Call, CallBytes, Reply}
use Rattle.link.specs.Steps.{View, step}

-- what the calls hand over to be read is bytes
abbrev pub AllBytes : List Call → Type 0
AllBytes [] = Unit {0}
AllBytes (c ∷ cs) = CallBytes c × AllBytes cs

-- what the endpoint replies, and what it shows then
unfoldable pub replies : (List ℕ → List ℕ) → View → List Call → List Reply
replies mix e [] = []
replies mix e (c ∷ cs) = (step mix e c).reply ∷ replies mix (step mix e c).view cs

unfoldable pub view_after : (List ℕ → List ℕ) → View → List Call → View
view_after mix e [] = e
view_after mix e (c ∷ cs) = view_after mix (step mix e c).view cs
