-- What a block operation keeps from byte to byte.
use Rattle.std.proofs.Common.{◌≡◌, ℕ, ◌+◌, ◌-◌, ◌≤◌, cond, eqb, List, [], ◌∷◌, ◌++◌, length, get_or, ap, ◌∙◌, add-one, append-nil, arith}
use Rattle.std.proofs.lemmas.List.{append_assoc}
use Rattle.std.proofs.lemmas.Bool.Decides.{nat_tests as ways}
use Rattle.link.specs.Blocks.{Op, tells, place, readied, treated, closed, after, told, mixings}

-- the mixings, one byte on
mixings_step : (i m : ℕ) → i ≤ 8 → mixings (i + (m + 1)) ≡ cond (eqb i 8) 1 0 + mixings ((place i + 1) + m)
mixings_step i m h = grind (arith, ways)

place_small : (i : ℕ) → i ≤ 8 → place i + 1 ≤ 8
place_small i h = grind (arith, ways)

-- One byte: the state v is readied to w, in which x is treated at the place j; that leaves u, and n places done.
pub record Byte
    (mix : List ℕ → List ℕ) (op : Op) (pad : ℕ) (v : List ℕ) (i : ℕ) (w : List ℕ) (j x : ℕ) (u : List ℕ) (n : ℕ) : Type 0
  where
    pub at : j ≡ place i
    pub on : n ≡ j + 1
    pub ready : w ≡ readied mix pad v i
    pub left : u ≡ treated op w j x

-- an operation over xs that began at v₀ with b₀ mixings stands at i, v and b: it has told s, and t is still to come in
pub record Going
    (mix : List ℕ → List ℕ) (op : Op) (pad : ℕ) (xs v₀ : List ℕ) (b₀ : ℕ) (s t : List ℕ) (i : ℕ) (v : List ℕ) (b : ℕ) : Type 0
  where
    pub small : i ≤ 8
    pub enough : mixings (i + length t) ≤ b
    pub spends : b - mixings (i + length t) ≡ b₀ - mixings (length xs)
    pub leads : after mix op pad v i t ≡ after mix op pad v₀ 0 xs
    pub tells : s ++ told mix op pad v i t ≡ told mix op pad v₀ 0 xs

module _ {mix : List ℕ → List ℕ} {op : Op} {pad : ℕ} {xs v₀ : List ℕ} {b₀ : ℕ} where
  -- one byte more
  pub going_more :
      {s s' t t' v w u : List ℕ} {i j x n b c d : ℕ} → Byte mix op pad v i w j x u n →
      Going mix op pad xs v₀ b₀ s t i v b → t ≡ x ∷ t' → s' ≡ s ++ tells op (get_or w j 0) x →
      c ≡ b - cond (eqb i 8) 1 0 → d ≡ c → Going mix op pad xs v₀ b₀ s' t' n u d
  unfolding after told
  going_more {s} {s'} {t} {t'} {v} {w} {u} {i} {j} {x} {n} y g et es ec ed =
      let m = mixings_step i (length t') g.small in
      let p = place_small i g.small in
      let en = y.on ∙ ap (λ q. q + 1) y.at in
      let q = ap (λ q. mixings (q + length t')) en in
      let r = ap (λ q. mixings (i + length q)) et in
      let h₁ = g.enough in
      let h₂ = g.spends in
      let e₁ = y.on ∙ add-one j in
      let e₂ = y.at in
      let e₃ = y.ready in
      let e₄ = y.left in
      let e₅ = g.leads in
      let e₆ = g.tells in
      let e₇ = append_assoc s (tells op (get_or w j 0) x) (told mix op pad u n t') in
      record { small = omega arith; enough = omega arith; spends = omega arith; leads = cc; tells = cc }

  -- the end
  pub going_all :
      {s t v u : List ℕ} {i b c : ℕ} → Going mix op pad xs v₀ b₀ s t i v b → t ≡ [] →
      u ≡ closed mix pad v i → c ≡ b - 1 →
      (u ≡ after mix op pad v₀ 0 xs) × (c ≡ b₀ - mixings (length xs)) × (s ≡ told mix op pad v₀ 0 xs)
  unfolding after told
  going_all {s} {i = i} g et eu ec =
      let n : mixings (i + 0) ≡ 1 = (let h = g.small in omega arith) in
      let r = ap (λ q. mixings (i + length q)) et in
      let e₁ = g.leads in
      let e₂ = g.tells in
      let e₃ = append-nil s in (cc, omega (arith, g.spends), cc)
