-- The published encryption and decryption, over the permutation π itself.
use Rattle.std.specs.Prelude.{ℕ, ◌-◌, cond, List, ◌++◌, length, take, drop, Some, None, Option}
use Rattle.std.specs.Str.{bytes_eq}
use Rattle.cbeam.specs.Permutation.{pi}
use Rattle.link.specs.Blocks.{put, get, enc, dec, told, after, zeros}

-- The state after key, nonce and associated data a: 32 zero bytes into which each of them is put with its pad.
unfoldable pub begun : (key nonce a : List ℕ) → List ℕ
begun key nonce a =
    let v₁ : List ℕ = after pi put 0x10 (zeros 32) 0 key in
    let v₂ : List ℕ = after pi put 0x20 v₁ 0 nonce in
    after pi put 0x40 v₂ 0 a

-- The message p enciphered, and then eight bytes of tag.
unfoldable pub encryption : (key nonce a p : List ℕ) → List ℕ
encryption key nonce a p =
    let v : List ℕ = begun key nonce a in
    let w : List ℕ = after pi enc 0x50 v 0 p in
    told pi enc 0x50 v 0 p ++ told pi get 0x60 w 0 (zeros 8)

-- All but the last eight of the bytes c deciphered; it fails unless the last eight are the tag.
unfoldable pub decryption : (key nonce a c : List ℕ) → Option (List ℕ)
decryption key nonce a c =
    let n : ℕ = length c - 8 in
    let v : List ℕ = begun key nonce a in
    let w : List ℕ = after pi dec 0x50 v 0 (take n c) in
    cond (bytes_eq (told pi get 0x60 w 0 (zeros 8)) (drop n c)) (Some (told pi dec 0x50 v 0 (take n c))) None
