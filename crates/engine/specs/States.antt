-- What a state is, and what a mixing function is.
use Rattle.std.specs.Prelude.{◌≡◌, ℕ, ◌<◌, List, length, slice_index}

-- every entry is a byte (past the end, 0 is read)
abbrev pub Bytes : List ℕ → Type 0
Bytes xs = (k : ℕ) → slice_index xs k < 256

-- A state is 32 bytes.
pub record State (xs : List ℕ) : Type 0 where
  pub long : length xs ≡ 32
  pub small : Bytes xs

-- A mixing function takes states to states.
abbrev pub Mixes : (List ℕ → List ℕ) → Type 0
Mixes mixing = (xs : List ℕ) → State xs → State (mixing xs)

-- Two mixing functions agree when they give the same on every state.
abbrev pub Agree : (List ℕ → List ℕ) → (List ℕ → List ℕ) → Type 0
Agree mixing₁ mixing₂ = (xs : List ℕ) → State xs → mixing₁ xs ≡ mixing₂ xs
