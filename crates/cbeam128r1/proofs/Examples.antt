-- The worked examples, each by computing.
use Rattle.std.proofs.Common.{◌≡◌, Bool, true, ◌&&◌, eqb, List, [], ◌∷◌, refl}
use Rattle.std.proofs.lemmas.Bool.{eqb-true, and_parts}
use Rattle.std.proofs.lemmas.Slice.Eq.{bytes_eq-Decides}
use Rattle.std.specs.Str.{bytes_eq}
use Rattle.cbeam.specs.Bits.{bit, word}
use Rattle.cbeam.specs.Phi5.{phi5}
use Rattle.cbeam.specs.Permutation.{constants, flipped, transposed, linear, nonlinear, rows_of, bytes_of, pi}
use Rattle.link.specs.Blocks.{told, after}
use Rattle.link.specs.Sessions.{cost}
use Rattle.cbeam128r1.specs.Published.{begun, encryption}
use Rattle.cbeam128r1.specs.Vectors.{Vector, linear_step, nonlinear_step, encrypts, decrypts, costs}
use Rattle.cbeam128r1.specs.Vectors.{Holds, Each, vectors}
use Rattle.cbeam128r1.proofs.Exactness.{decrypts_back}

-- whether a row holds; sealed bytes are decrypted to what encrypts to them
abbrev passes : Vector → Bool
passes (linear_step x y) = eqb (linear x) y
passes (nonlinear_step x y) = eqb (nonlinear x) y
passes (encrypts key nonce aad message sealed) = bytes_eq (encryption key nonce aad message) sealed
passes (decrypts key nonce aad sealed message) = bytes_eq (encryption key nonce aad message) sealed
passes (costs aad message mixings) = eqb (cost aad message) mixings

abbrev all_pass : List Vector → Bool
all_pass [] = true
all_pass (v ∷ vs) = passes v && all_pass vs

holds : (v : Vector) → passes v ≡ true → Holds v
holds (linear_step x y) t = eqb-true (linear x) y t
holds (nonlinear_step x y) t = eqb-true (nonlinear x) y t
holds (encrypts key nonce aad message sealed) t = (bytes_eq-Decides _ _).0 t
holds (decrypts key nonce aad sealed message) t =
    decrypts_back key nonce aad sealed message ((bytes_eq-Decides _ _).0 t)
holds (costs aad message mixings) t = eqb-true (cost aad message) mixings t

each : (vs : List Vector) → all_pass vs ≡ true → Each vs
each [] t = tt
each (v ∷ vs) t = let both = and_parts (passes v) (all_pass vs) t in (holds v both.0, each vs both.1)

pub vectors_hold : Each vectors
unfolding bit word phi5 constants flipped transposed linear nonlinear rows_of bytes_of pi told after begun encryption
vectors_hold = each vectors refl
