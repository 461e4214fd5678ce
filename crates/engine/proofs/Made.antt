-- Arrays made by calls of a closure that stays as it is: one at each number, or one at each element of an array.
use Rattle.std.proofs.Common.{◌≡◌, ℕ, zero, suc, ◌+◌, ◌<◌, ◌≤◌, List, map, get_or, sym, subst, arith}
use native.Mathlib.Decide.{ℕ_discrete}
use denote.Param.Members.{Mut, Called}
use Rattle.std.specs.Array.{IsFromFnResultFrom, IsFromFnResult, MapsFrom, IsMapOf}
use Rattle.std.specs.List.{range_with_len}
use Rattle.std.proofs.lemmas.List.FromFn.{fill_by_all}

module _ {F : Type 0} (g : Mut F (ℕ × Unit {0}) ℕ) (R : ℕ → ℕ → Type 0) {f : F} (n : ℕ)
    (call : (x y : ℕ) (q : F) → x < n → Called g f (x, tt) y q → (q ≡ f) × R x y) where
  numbered_from : (ys : List ℕ) (m i : ℕ) → i + m ≡ n → IsFromFnResultFrom g f ys i m
      → (j : ℕ) → i ≤ j → j < n → R j (get_or ys j 0)
  numbered_from ys zero i e r j a b = absurd (omega arith)
  numbered_from ys (suc m) i e (q, y, at, one, rest) j a b =
      let same = call i y q (omega arith) one in
      elim (ℕ_discrete j i) [
        | yes e ↦ subst (λ (k : ℕ). R k (get_or ys k 0)) (sym e) (subst (R i) (sym (at.1 0)) same.1)
        | no ne ↦
            numbered_from ys m (i + 1) (omega arith) (subst (λ p. IsFromFnResultFrom g p ys (i + 1) m) same.0 rest)
            j (omega arith) b
      ]

  pub numbered : {ys : List ℕ} → IsFromFnResult g f ys n → (k : ℕ) → k < n → R k (get_or ys k 0)
  numbered {ys} r k h = numbered_from ys n 0 (omega arith) r.each k (omega arith) h

module _ {F : Type 0} (g : Mut F (ℕ × Unit {0}) ℕ) (R : ℕ → ℕ → Type 0) {f : F}
    (call : (x y : ℕ) (q : F) → Called g f (x, tt) y q → (q ≡ f) × R x y) where
  each_from : (xs ys : List ℕ) (n i : ℕ) → MapsFrom g f xs ys i n
      → (j : ℕ) → i ≤ j → j < i + n → R (get_or xs j 0) (get_or ys j 0)
  each_from xs ys zero i r j a b = absurd (omega arith)
  each_from xs ys (suc n) i (q, x, y, from, at, one, rest) j a b =
      let same = call x y q one in
      elim (ℕ_discrete j i) [
        | yes e ↦
            subst (λ (k : ℕ). R (get_or xs k 0) (get_or ys k 0)) (sym e)
            (subst (R (get_or xs i 0)) (sym (at.1 0)) (subst (λ v. R v y) (sym (from.1 0)) same.1))
        | no ne ↦
            each_from xs ys n (i + 1) (subst (λ p. MapsFrom g p xs ys (i + 1) n) same.0 rest)
            j (omega arith) (omega arith)
      ]

  pub each : {xs ys : List ℕ} {n : ℕ} → IsMapOf g f xs ys n → (k : ℕ) → k < n → R (get_or xs k 0) (get_or ys k 0)
  each {xs} {ys} {n} r k h = each_from xs ys n 0 r.each k (omega arith) (omega arith)

-- the same where a call gives h of the number
module _ {F : Type 0} (g : Mut F (ℕ × Unit {0}) ℕ) (h : ℕ → ℕ) {f : F} (n : ℕ)
    (call : (x y : ℕ) (q : F) → x < n → Called g f (x, tt) y q → (q ≡ f) × (y ≡ h x)) where
  pub made : {ys : List ℕ} → IsFromFnResult g f ys n → ys ≡ map h (range_with_len 0 n)
  made {ys} r = fill_by_all h ys n 0 r.long (numbered g (λ x y. y ≡ h x) n call r)
