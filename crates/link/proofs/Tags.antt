-- Bytes that are compared by what differs, all of it gathered in one number.
use Rattle.std.proofs.Common.{◌≡◌, ℕ, zero, suc, Bool, ◌&&◌, eqb, List, [], ◌∷◌, length, fold, sym, ap, ◌∙◌, arith}
use lib.Bits.{bit_or, bit_xor, or_add_and, and_le_r, xor_self, xor_zero_r}
use Rattle.std.proofs.lemmas.Bool.Decides.{nat_tests as ways}
use Rattle.std.proofs.Math.Bool.{and_assoc, and-true}
use Rattle.std.specs.List.{zip}
use Rattle.std.specs.Str.{bytes_eq}
use Rattle.link.proofs.Xor.{xor_back}

-- the xor of two numbers is 0 exactly when they are the same
none_differs : (x y : ℕ) → eqb (bit_xor x y) 0 ≡ eqb x y
none_differs x y =
    let back = xor_back x y in
    let z = xor_zero_r x in
    let s = xor_self x in grind (arith, ways)

-- one byte more
gathered : (d x y : ℕ) → eqb (bit_or d (bit_xor x y)) 0 ≡ eqb d 0 && eqb x y
gathered zero x y = none_differs x y
gathered (suc d) x y =
    let n = or_add_and (suc d) (bit_xor x y) in
    let l = and_le_r (suc d) (bit_xor x y) in grind (arith, ways)

differ_from :
    (a b : List ℕ) (d : ℕ) → length a ≡ length b →
    eqb (fold (λ d p. bit_or d (bit_xor p.0 p.1)) d (zip a b)) 0 ≡ eqb d 0 && bytes_eq a b
differ_from [] [] d e = sym (and-true (eqb d 0))
differ_from [] (y ∷ b) d e = absurd (omega arith)
differ_from (x ∷ a) [] d e = absurd (omega arith)
differ_from (x ∷ a) (y ∷ b) d e =
    differ_from a b (bit_or d (bit_xor x y)) (omega arith) ∙ ap (λ (t : Bool). t && bytes_eq a b) (gathered d x y)
    ∙ and_assoc (eqb d 0) (eqb x y) (bytes_eq a b)

-- nothing differs exactly when they are the same
pub nothing_differs :
    (a b : List ℕ) (d : ℕ) → d ≡ fold (λ d p. bit_or d (bit_xor p.0 p.1)) 0 (zip a b) → length a ≡ length b →
    eqb d 0 ≡ bytes_eq a b
nothing_differs a b d is long = ap (λ d. eqb d 0) is ∙ differ_from a b 0 long
