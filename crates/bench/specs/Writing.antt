-- What a listing holds after a text was added to it.
use Rattle.std.specs.Prelude.{◌≡◌, ℕ, ◌+◌, ◌-◌, ◌≤◌, List, ◌++◌, length, take, drop}
use Rattle.bench.specs.declared.listing.Listing.{Listing}

-- `old` with `text` in it from a place on
unfoldable pub written : ℕ → List ℕ → List ℕ → List ℕ
written at text old = take at old ++ (text ++ drop (at + length text) old)

-- n bytes are free behind what is written
abbrev pub Room : Listing → ℕ → Type 0
Room l n = l.used + n ≤ length l.bytes.now

-- m is l with the text behind what was written, and nothing else altered
pub record Adds (l : Listing) (text : List ℕ) (m : Listing) : Type 0 where
  pub used : m.used ≡ l.used + length text
  pub bytes : m.bytes.now ≡ written l.used text l.bytes.now
  pub long : length m.bytes.now ≡ length l.bytes.now
  pub same : m.bytes.ghost_name ≡ l.bytes.ghost_name

-- the text so far, and how many bytes are free behind it
abbrev pub text_of : Listing → List ℕ
text_of l = take l.used l.bytes.now

abbrev pub free : Listing → ℕ
free l = length l.bytes.now - l.used
