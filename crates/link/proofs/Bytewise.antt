-- Under a block operation a state stays a state and bytes come out; mixing functions that agree on states do the same.
use Rattle.std.proofs.Common.{◌≡◌, ℕ, suc, ◌<◌, Bool, true, false, eqb, List, [], ◌∷◌, get_or, refl, arith}
use lib.Bits.{bit_xor, xor_lt}
use Rattle.engine.specs.States.{Bytes, State, Mixes, Agree}
use Rattle.engine.proofs.StateLaws.{bytes_none, bytes_cons, bytes_append, state_set}
use Rattle.link.specs.Blocks.{Op, put, get, enc, dec, stored, tells, treated}
use Rattle.link.specs.Blocks.{xor_at, turned, readied, place, told, after}

xor_byte : (a b : ℕ) → a < 256 → b < 256 → bit_xor a b < 256
xor_byte a b = xor_lt 8 a b

xor_state : (v : List ℕ) (i b : ℕ) → State v → b < 256 → State (xor_at v i b)
xor_state v i b h l = state_set v i _ h (xor_byte _ b (h.small i) l)

stored_byte : (op : Op) (old x : ℕ) → old < 256 → x < 256 → stored op old x < 256
stored_byte put old x h k = xor_byte old x h k
stored_byte get old x h k = h
stored_byte enc old x h k = xor_byte old x h k
stored_byte dec old x h k = k

tells_bytes : (op : Op) (old x : ℕ) → old < 256 → x < 256 → Bytes (tells op old x)
tells_bytes put old x h k = bytes_none
tells_bytes get old x h k = bytes_cons old [] h bytes_none
tells_bytes enc old x h k = bytes_cons _ [] (xor_byte old x h k) bytes_none
tells_bytes dec old x h k = bytes_cons _ [] (xor_byte old x h k) bytes_none

treated_state : (op : Op) (v : List ℕ) (i x : ℕ) → State v → x < 256 → State (treated op v i x)
treated_state op v i x h l = state_set v i _ h (stored_byte op _ x (h.small i) l)

module _ (mix : List ℕ → List ℕ) (M : Mixes mix) (pad : ℕ) (small : pad < 256) where
  turned_state : (v : List ℕ) (full : Bool) → State v → State (turned mix pad v full)
  turned_state v true h = M _ (xor_state v 8 pad h small)
  turned_state v false h = h

  next_state :
      (op : Op) (v : List ℕ) (i x : ℕ) → State v → x < 256 → State (treated op (readied mix pad v i) (place i) x)
  next_state op v i x h l = treated_state op _ (place i) x (turned_state v (eqb i 8) h) l

  last_state : (v : List ℕ) (i : ℕ) → State v → State (xor_at (xor_at v i 1) 8 (bit_xor 2 pad))
  last_state v i h = xor_state _ 8 _ (xor_state v i 1 h (omega arith)) (xor_byte 2 pad (omega arith) small)

  pub after_state : (op : Op) (xs v : List ℕ) (i : ℕ) → State v → Bytes xs → State (after mix op pad v i xs)
  unfolding after
  after_state op [] v i h k = M _ (last_state v i h)
  after_state op (x ∷ xs) v i h k = after_state op xs _ (suc (place i)) (next_state op v i x h (k 0)) (λ j. k (suc j))

  pub told_bytes : (op : Op) (xs v : List ℕ) (i : ℕ) → State v → Bytes xs → Bytes (told mix op pad v i xs)
  unfolding told
  told_bytes op [] v i h k = bytes_none
  told_bytes op (x ∷ xs) v i h k =
      let old = (turned_state v (eqb i 8) h).small (place i) in
      bytes_append (tells op (get_or (readied mix pad v i) (place i) 0) x) _ (tells_bytes op _ x old (k 0))
      (told_bytes op xs _ (suc (place i)) (next_state op v i x h (k 0)) (λ j. k (suc j)))

  module _ (mix' : List ℕ → List ℕ) (same : Agree mix mix') where
    turned_same : (v : List ℕ) (full : Bool) → State v → turned mix pad v full ≡ turned mix' pad v full
    turned_same v true h = same _ (xor_state v 8 pad h small)
    turned_same v false h = refl

    pub after_same :
        (op : Op) (xs v : List ℕ) (i : ℕ) → State v → Bytes xs → after mix op pad v i xs ≡ after mix' op pad v i xs
    unfolding after
    after_same op [] v i h k = same _ (last_state v i h)
    after_same op (x ∷ xs) v i h k =
        let rest = after_same op xs _ (suc (place i)) (next_state op v i x h (k 0)) (λ j. k (suc j)) in
        cc (rest, turned_same v (eqb i 8) h)

    pub told_same :
        (op : Op) (xs v : List ℕ) (i : ℕ) → State v → Bytes xs → told mix op pad v i xs ≡ told mix' op pad v i xs
    unfolding told
    told_same op [] v i h k = refl
    told_same op (x ∷ xs) v i h k =
        let rest = told_same op xs _ (suc (place i)) (next_state op v i x h (k 0)) (λ j. k (suc j)) in
        cc (rest, turned_same v (eqb i 8) h)
