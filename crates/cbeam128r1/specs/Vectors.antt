-- Worked examples: one list, of rows of several kinds, each with what it says.
use Rattle.std.specs.Prelude.{◌≡◌, ℕ, List, [], ◌∷◌, Some, codes}
use Rattle.cbeam.specs.Permutation.{linear, nonlinear}
use Rattle.link.specs.Sessions.{cost}
use Rattle.cbeam128r1.specs.Published.{encryption, decryption}

pub data Vector : Type 0 where
  linear_step : ℕ → ℕ → Vector
  nonlinear_step : ℕ → ℕ → Vector
  encrypts : (key nonce aad message sealed : List ℕ) → Vector
  decrypts : (key nonce aad sealed message : List ℕ) → Vector
  costs : (aad message mixings : ℕ) → Vector

abbrev pub Holds : Vector → Type 0
Holds (linear_step x y) = linear x ≡ y
Holds (nonlinear_step x y) = nonlinear x ≡ y
Holds (encrypts key nonce aad message sealed) = encryption key nonce aad message ≡ sealed
Holds (decrypts key nonce aad sealed message) = decryption key nonce aad sealed ≡ Some message
Holds (costs aad message mixings) = cost aad message ≡ mixings

abbrev pub Each : List Vector → Type 0
Each [] = Unit {0}
Each (v ∷ vs) = Holds v × Each vs

-- the published telegram, with its ciphertext and tag
abbrev test_key : List ℕ
test_key = codes "128-Bit Test Key"

abbrev test_nonce : List ℕ
test_nonce = codes "Nonce 64"

abbrev test_aad : List ℕ
test_aad = codes "AAD"

abbrev test_message : List ℕ
test_message = codes "cbeam128r1 payload"

abbrev test_sealed : List ℕ
test_sealed =
    0x1B ∷ 0xB9 ∷ 0xA3 ∷ 0xD0 ∷ 0xFC ∷ 0x34 ∷ 0x07 ∷ 0x8E
    ∷ 0x70 ∷ 0x78 ∷ 0x30 ∷ 0x1E ∷ 0xE9 ∷ 0x8D ∷ 0x25 ∷ 0xE6
    ∷ 0x61 ∷ 0x29
    ∷ 0x07 ∷ 0x8D ∷ 0xBB ∷ 0x1E ∷ 0x48 ∷ 0x0A ∷ 0x20 ∷ 0x0E ∷ []

abbrev pub vectors : List Vector
vectors =
    linear_step 0x5575 0x7757
    ∷ linear_step 0x9999 0x9999
    ∷ linear_step 0xFFFF 0xFFFF
    ∷ nonlinear_step 0x7757 0x88A8
    ∷ nonlinear_step 0x9999 0x3333
    ∷ nonlinear_step 0xFF00 0xFE0D
    ∷ nonlinear_step 0xFFFF 0xFFFF
    ∷ encrypts test_key test_nonce test_aad test_message test_sealed
    ∷ decrypts test_key test_nonce test_aad test_sealed test_message
    ∷ costs 0 0 3
    ∷ costs 8 8 3
    ∷ costs 9 8 4
    ∷ costs 3 18 5
    ∷ costs 65535 65535 16385
    ∷ []
