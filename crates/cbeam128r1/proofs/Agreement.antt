-- The published encryption and decryption are the first telegram of a session over π.
use Rattle.std.proofs.Common.{◌≡◌, ℕ, cond, List, [], Some, None, Option, refl}
use Rattle.cbeam.specs.Permutation.{pi}
use Rattle.link.specs.Sessions.{after_data, ciphertext, after_message, tag_of, plaintext, after_plaintext}
use Rattle.link.specs.Sessions.{sealing_at, sealing, genuine, session_begun, after_telegrams, session_state}
use Rattle.cbeam128r1.specs.Published.{begun, encryption, decryption}

module _ (key nonce a : List ℕ) where
  pub encryption_at : (p : List ℕ) → encryption key nonce a p ≡ sealing_at pi (session_begun pi key nonce) a p
  unfolding encryption begun sealing_at ciphertext after_message after_data tag_of
  encryption_at p = refl

  -- what is published is what the first telegram of a session is sealed to
  pub encryption_sealing : (p : List ℕ) → encryption key nonce a p ≡ sealing pi key nonce [] a p
  unfolding sealing session_state after_telegrams
  encryption_sealing p = encryption_at p

  -- what sealed bytes c are opened to at the state v
  abbrev pub opened_at : List ℕ → List ℕ → Option (List ℕ)
  opened_at v c = cond (genuine pi v a c) (Some (plaintext pi v a c)) None

  pub decryption_at : (c : List ℕ) → decryption key nonce a c ≡ opened_at (session_begun pi key nonce) c
  unfolding decryption begun plaintext after_plaintext after_data tag_of
  decryption_at c = refl

  -- and what is published is what the first telegram of a session is opened to
  pub decryption_opening : (c : List ℕ) → decryption key nonce a c ≡ opened_at (session_state pi key nonce []) c
  unfolding session_state after_telegrams
  decryption_opening c = decryption_at c
