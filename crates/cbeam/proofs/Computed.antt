-- Facts about finitely many numbers, from one test that is computed, or from each of them.
use Rattle.std.proofs.Common.{ℕ, zero, suc, ◌<◌, Bool, true, false, T, sym, subst, arith}
use native.Mathlib.Decide.{ℕ_discrete}

abbrev pub both : Bool → Bool → Bool
both true b = b
both false b = false

pub both_left : (a b : Bool) → T (both a b) → T a
both_left true b t = tt
both_left false b t = t

pub both_right : (a b : Bool) → T (both a b) → T b
both_right true b t = t
both_right false b t = absurd t

-- a test at both bits
abbrev pub bits : (ℕ → Bool) → Bool
bits f = both (f 0) (f 1)

pub at_bit : (f : ℕ → Bool) → T (bits f) → (b : ℕ) → b < 2 → T (f b)
at_bit f t zero l = both_left (f 0) (f 1) t
at_bit f t (suc zero) l = both_right (f 0) (f 1) t
at_bit f t (suc (suc b)) l = absurd (omega arith)

-- a test at every number below n
abbrev pub upto : ℕ → (ℕ → Bool) → Bool
upto zero f = true
upto (suc n) f = both (upto n f) (f n)

pub at_upto : (n : ℕ) (f : ℕ → Bool) → T (upto n f) → (k : ℕ) → k < n → T (f k)
at_upto zero f t k l = absurd (omega arith)
at_upto (suc n) f t k l =
    elim (ℕ_discrete k n) [
      | yes e ↦ subst (λ (i : ℕ). T (f i)) (sym e) (both_right (upto n f) (f n) t)
      | no ne ↦ at_upto n f (both_left (upto n f) (f n) t) k (omega arith)
    ]

-- what holds at 0, 1, 2 and 3
pub below_four : (P : ℕ → Type 0) → P 0 → P 1 → P 2 → P 3 → (u : ℕ) → u < 4 → P u
below_four P a b c d zero h = a
below_four P a b c d (suc zero) h = b
below_four P a b c d (suc (suc zero)) h = c
below_four P a b c d (suc (suc (suc zero))) h = d
below_four P a b c d (suc (suc (suc (suc u)))) h = absurd (omega arith)
