-- How much an operation tells.
use Rattle.std.proofs.Common.{◌≡◌, ℕ, suc, List, [], ◌∷◌, length, get_or, refl, arith, length-append}
use Rattle.link.specs.Blocks.{Op, get, enc, tells, readied, place, treated, told, zeros}
use Rattle.link.specs.Sessions.{ciphertext, after_data, tag_of, message_pad, tag_pad}

-- an operation that tells one byte for each
abbrev pub TellsOne : Op → Type 0
TellsOne op = (old x : ℕ) → length (tells op old x) ≡ 1

pub length-told :
    (mix : List ℕ → List ℕ) (op : Op) (pad : ℕ) → TellsOne op →
    (xs v : List ℕ) (i : ℕ) → length (told mix op pad v i xs) ≡ length xs
unfolding told
length-told mix op pad one [] v i = refl
length-told mix op pad one (x ∷ xs) v i =
    let w = readied mix pad v i in
    let ToldHere = tells op (get_or w (place i) 0) x in
    let told_then = told mix op pad (treated op w (place i) x) (suc (place i)) xs in
    let rest = length-told mix op pad one xs (treated op w (place i) x) (suc (place i)) in
    omega (arith, length-append ToldHere told_then, one (get_or w (place i) 0) x, rest)

module _ (mix : List ℕ → List ℕ) where
  pub length-tag : (v : List ℕ) → length (tag_of mix v) ≡ 8
  unfolding tag_of
  length-tag v = length-told mix get tag_pad (λ old x. refl) (zeros 8) v 0

  pub length-ciphertext : (v a p : List ℕ) → length (ciphertext mix v a p) ≡ length p
  unfolding ciphertext
  length-ciphertext v a p = length-told mix enc message_pad (λ old x. refl) p (after_data mix v a) 0
