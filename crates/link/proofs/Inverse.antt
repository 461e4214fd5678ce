-- What enc tells dec takes back, and the other way round, with the same state after.
use Rattle.std.proofs.Common.{◌≡◌, ℕ, suc, List, [], ◌∷◌, refl, ap, ap₂}
use Rattle.link.specs.Blocks.{enc, dec, place, told, after}
use Rattle.link.proofs.Xor.{xor_back}

module _ (mix : List ℕ → List ℕ) (pad : ℕ) where
  pub dec-enc : (xs v : List ℕ) (i : ℕ) → told mix dec pad v i (told mix enc pad v i xs) ≡ xs
  unfolding told
  dec-enc [] v i = refl
  dec-enc (x ∷ xs) v i = ap₂ (λ (y : ℕ) (ys : List ℕ). y ∷ ys) (xor_back _ x) (dec-enc xs _ (suc (place i)))

  pub after-dec-enc :
      (xs v : List ℕ) (i : ℕ) → after mix dec pad v i (told mix enc pad v i xs) ≡ after mix enc pad v i xs
  unfolding told after
  after-dec-enc [] v i = refl
  after-dec-enc (x ∷ xs) v i = after-dec-enc xs _ (suc (place i))

  pub enc-dec : (xs v : List ℕ) (i : ℕ) → told mix enc pad v i (told mix dec pad v i xs) ≡ xs
  unfolding told
  enc-dec [] v i = refl
  enc-dec (x ∷ xs) v i = simp xor_back (ap (λ (ys : List ℕ). x ∷ ys) (enc-dec xs _ (suc (place i))))

  pub after-enc-dec :
      (xs v : List ℕ) (i : ℕ) → after mix enc pad v i (told mix dec pad v i xs) ≡ after mix dec pad v i xs
  unfolding told after
  after-enc-dec [] v i = refl
  after-enc-dec (x ∷ xs) v i = simp xor_back (after-enc-dec xs _ (suc (place i)))
