-- Decryption gives back the one message, and fails where there is none.
use Rattle.std.proofs.Common.{◌≡◌, ℕ, ◌-◌, Bool, true, false, cond, ◌⊎◌, List, [], ◌++◌, length, drop, Some, None, sym, refl, ap, ◌∙◌, inl, inr, true≢false}
use Rattle.std.proofs.lemmas.Slice.Eq.{bytes_eq-Decides}
use Rattle.engine.specs.States.{Bytes}
use Rattle.cbeam.specs.Permutation.{pi}
use Rattle.cbeam.specs.States.{pi_state}
use Rattle.link.specs.Sessions.{plaintext, genuine, session_begun, after_telegrams, session_state}
use Rattle.link.specs.Calls.{Answer, opened, Reply}
use Rattle.link.specs.Steps.{reply}
use Rattle.link.proofs.Sealings.{plain_sealing, tag_sealing, sealing_plain, length-plain}
use Rattle.link.proofs.SessionStates.{plain_bytes}
use Rattle.cbeam128r1.specs.Published.{encryption, decryption}
use Rattle.cbeam128r1.specs.OneShot.{by_decryption, decrypt_reply}
use Rattle.cbeam128r1.specs.Exact.{Opened, Forged, Exact}
use Rattle.cbeam128r1.proofs.Agreement.{encryption_at, decryption_at}

module _ (key nonce a c : List ℕ) where
  abbrev start : List ℕ
  start = session_begun pi key nonce

  abbrev right : Bool
  right = genuine pi start a c

  abbrev plain : List ℕ
  plain = plaintext pi start a c

  module _ (q : List ℕ) (is : encryption key nonce a q ≡ c) where
    is_right : right ≡ true
    is_right = (bytes_eq-Decides _ _).1 (tag_sealing pi start a q c (sym (encryption_at key nonce a q) ∙ is))

    is_plain : plain ≡ q
    is_plain = plain_sealing pi start a q c (sym (encryption_at key nonce a q) ∙ is)

    -- what was encrypted is decrypted to itself
    pub decrypts_back : decryption key nonce a c ≡ Some q
    decrypts_back = rw (decryption_at key nonce a c, is_right, is_plain) refl

  encrypts_back : right ≡ true → encryption key nonce a plain ≡ c
  encrypts_back h = encryption_at key nonce a plain ∙ sealing_plain pi start a c ((bytes_eq-Decides _ _).0 h)

  module _
      (hk : Bytes key) (hn : Bytes nonce) (ha : Bytes a) (hc : Bytes c)
      (out output : List ℕ) (answer : Answer)
    where
      bytes_plain : Bytes plain
      unfolding session_state after_telegrams
      bytes_plain = plain_bytes pi pi_state key nonce [] a c (hk, hn, tt) ha hc

      by_right :
          (b : Bool) → right ≡ b →
          reply answer output ≡ by_decryption (length c - 8) out (cond b (Some plain) None) →
          Opened key nonce a c out answer output ⊎ Forged key nonce a c out answer output
      by_right true h e =
          let long = sym (length-plain pi start a c) in
          inl (record {
            message = plain;
            bytes = bytes_plain;
            encrypts = encrypts_back h;
            only = λ q is. sym (is_plain q is);
            answers = ap (λ (r : Reply). r.answer) e ∙ ap opened long;
            writes = ap (λ (r : Reply). r.output) e ∙ ap (λ (n : ℕ). plain ++ drop n out) long;
          })
      by_right false h e =
          inr (record {
            none = λ q is. true≢false (sym (is_right q is) ∙ h);
            answers = ap (λ (r : Reply). r.answer) e;
            writes = ap (λ (r : Reply). r.output) e;
          })

      pub exact_reply : reply answer output ≡ decrypt_reply key nonce a c out → Exact key nonce a c out answer output
      exact_reply e passes =
          by_right right refl (rw (passes, decryption_at key nonce a c) at e)
