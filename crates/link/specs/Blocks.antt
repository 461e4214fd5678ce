-- The four block operations, over any mixing function: what they tell, and the state that they leave.
use Rattle.std.specs.Prelude.{ℕ, suc, ◌+◌, ◌/◌, max, Bool, true, false, cond, List, [], ◌∷◌, ◌++◌, replicate, ◌==◌, bit_xor, slice_index, slice_set}

pub data Op : Type 0 where
  put get enc dec : Op

-- what an operation stores in place of the old byte, when the byte x comes in
abbrev pub stored : Op → ℕ → ℕ → ℕ
stored put old x = bit_xor old x
stored get old x = old
stored enc old x = bit_xor old x
stored dec old x = x

-- what it tells then
abbrev pub tells : Op → ℕ → ℕ → List ℕ
tells put old x = []
tells get old x = old ∷ []
tells enc old x = bit_xor old x ∷ []
tells dec old x = bit_xor old x ∷ []

abbrev pub xor_at : List ℕ → ℕ → ℕ → List ℕ
xor_at v i b = slice_set v i (bit_xor (slice_index v i) b)

-- A full block that is not the last is closed by the pad alone, and mixed. (By cases, so that no mixing is computed
-- that is not wanted.)
abbrev pub turned : (List ℕ → List ℕ) → ℕ → List ℕ → (full : Bool) → List ℕ
turned mix pad v true = mix (xor_at v 8 pad)
turned mix pad v false = v

-- the state and the place that the next byte meets: at place 8 a block is full
abbrev pub readied : (List ℕ → List ℕ) → ℕ → List ℕ → ℕ → List ℕ
readied mix pad v i = turned mix pad v (i == 8)

abbrev pub place : ℕ → ℕ
place i = cond (i == 8) 0 i

-- the state once one byte is treated
abbrev pub treated : Op → List ℕ → ℕ → ℕ → List ℕ
treated op v i x = slice_set v i (stored op (slice_index v i) x)

-- what an operation tells of the bytes that come in, from the state v and the place i on
unfoldable pub told : (List ℕ → List ℕ) → Op → ℕ → List ℕ → ℕ → List ℕ → List ℕ
told mix op pad v i [] = []
told mix op pad v i (x ∷ xs) =
    tells op (slice_index (readied mix pad v i) (place i)) x
    ++ told mix op pad (treated op (readied mix pad v i) (place i) x) (suc (place i)) xs

-- the end of an operation that has come to the place i
abbrev pub closed : (List ℕ → List ℕ) → ℕ → List ℕ → ℕ → List ℕ
closed mix pad v i = mix (xor_at (xor_at v i 0x01) 8 (bit_xor 0x02 pad))

-- the state when it is done
unfoldable pub after : (List ℕ → List ℕ) → Op → ℕ → List ℕ → ℕ → List ℕ → List ℕ
after mix op pad v i [] = closed mix pad v i
after mix op pad v i (x ∷ xs) = after mix op pad (treated op (readied mix pad v i) (place i) x) (suc (place i)) xs

-- how many mixings an operation on n bytes takes
abbrev pub mixings : ℕ → ℕ
mixings n = max 1 ((n + 7) / 8)

abbrev pub zeros : ℕ → List ℕ
zeros n = replicate n 0
