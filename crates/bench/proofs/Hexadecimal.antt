-- Laws of hexadecimal text.
use Rattle.std.proofs.Common.{◌≡◌, ℕ, ◌+◌, ◌*◌, ◌/◌, ◌%◌, ◌<◌, ◌≤◌, List, [], ◌∷◌, ◌++◌, length, get_or, take, refl, ap, ◌∙◌, arith}
use Rattle.std.proofs.lemmas.List.{length-take-le, take_more}
use Rattle.bench.specs.Texts.{hex_digit, hex}

length-hex : (bs : List ℕ) → length (hex bs) ≡ 2 * length bs
length-hex [] = refl
length-hex (b ∷ bs) = omega (arith, length-hex bs)

pub length-hex-take : (bs : List ℕ) (i : ℕ) → i ≤ length bs → length (hex (take i bs)) ≡ 2 * i
length-hex-take bs i h = length-hex (take i bs) ∙ ap (λ n. 2 * n) (length-take-le i bs h)

hex-append : (xs ys : List ℕ) → hex (xs ++ ys) ≡ hex xs ++ hex ys
hex-append [] ys = refl
hex-append (x ∷ xs) ys = ap (λ t. hex_digit (x / 16) ∷ hex_digit (x % 16) ∷ t) (hex-append xs ys)

pub hex_more :
    (bs : List ℕ) (i : ℕ) → i < length bs →
    hex (take (i + 1) bs) ≡ hex (take i bs) ++ (hex_digit (get_or bs i 0 / 16) ∷ hex_digit (get_or bs i 0 % 16) ∷ [])
hex_more bs i h = ap hex (take_more bs i 0 h) ∙ hex-append (take i bs) (get_or bs i 0 ∷ [])
