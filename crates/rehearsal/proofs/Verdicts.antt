-- Whether every question is answered yes, and the number of the first that is not.
use Rattle.std.proofs.Common.{◌≡◌, ℕ, Bool, true, false, eqb, List, [], ◌∷◌, sym, refl, ◌∙◌, true≢false, arith}
use Rattle.std.proofs.lemmas.Bool.Decides.{nat_tests as ways}
use Rattle.link.specs.declared.phase.Phase.{Phase}
use Rattle.link.specs.Calls.{Call, Start, Seal, Open, Left, Close}
use Rattle.link.specs.Questions.{Question, questions, passed, stopped, verdict}

pub true_is_false : (b : Bool) → b ≡ true → b ≡ false → ⊥
true_is_false b p q = true≢false (sym p ∙ q)

-- every question is answered yes
abbrev pub AllYes : List Question → Type 0
AllYes [] = Unit {0}
AllYes (q ∷ qs) = (q.yes ≡ true) × AllYes qs

pub all_yes : (qs : List Question) → verdict qs ≡ passed → AllYes qs
all_yes [] e = tt
all_yes (q ∷ qs) e =
    let both : (q.yes ≡ true) × (verdict qs ≡ passed) = grind (arith, ways) in (both.0, all_yes qs both.1)

pub yes_all : (qs : List Question) → AllYes qs → verdict qs ≡ passed
yes_all [] h = refl
yes_all (q ∷ qs) h = rw h.0 (yes_all qs h.1)

-- a refusal by one of these questions is never the one for a wrong tag, which is 10
abbrev NotTen : List Question → Type 0
NotTen [] = Unit {0}
NotTen (q ∷ qs) = (eqb q.number 10 ≡ false) × NotTen qs

not_ten : (qs : List Question) (n : ℕ) (vs : List ℕ) → NotTen qs → verdict qs ≡ stopped n vs → eqb n 10 ≡ false
not_ten [] n vs h e = cc
not_ten (q ∷ qs) n vs h e =
    let rest = not_ten qs n vs h.1 in
    let here = h.0 in grind (arith, ways)

pub questions_not_ten :
    (phase : Phase) (left : ℕ) (c : Call) (n : ℕ) (vs : List ℕ) → verdict (questions phase left c) ≡ stopped n vs →
    eqb n 10 ≡ false
questions_not_ten phase left c n vs e = not_ten (questions phase left c) n vs (other c) e
  where
    other : (c : Call) → NotTen (questions phase left c)
    other (Start key nonce out) = (refl, (refl, (refl, (refl, tt))))
    other (Seal a p out) = (refl, (refl, (refl, (refl, (refl, tt)))))
    other (Open a c out) = (refl, (refl, (refl, (refl, (refl, (refl, tt))))))
    other (Left out) = tt
    other (Close out) = (refl, tt)
