-- The sealed bytes of a telegram: how long they are, that no other message has them, and which bytes are sealed ones.
use Rattle.std.proofs.Common.{◌≡◌, ℕ, ◌+◌, ◌-◌, List, [], ◌∷◌, ◌++◌, length, take, drop, sym, refl, ap, ◌∙◌, arith, length-append, take-append-drop}
use Rattle.std.proofs.lemmas.List.{take_at, drop_at, length-take-le}
use Rattle.link.specs.Blocks.{dec}
use Rattle.link.specs.Sessions.{message_pad, after_data, ciphertext, after_message, tag_of}
use Rattle.link.specs.Sessions.{sealing_at, after_telegram, plaintext, after_plaintext}
use Rattle.link.specs.Sessions.{Telegram, session_begun, after_telegrams, session_state}
use Rattle.link.proofs.Lengths.{length-told, length-tag, length-ciphertext}
use Rattle.link.proofs.Inverse.{dec-enc, after-dec-enc, enc-dec, after-enc-dec}

module _ (mix : List ℕ → List ℕ) where
  pub length-sealing : (v a p : List ℕ) → length (sealing_at mix v a p) ≡ length p + 8
  unfolding sealing_at
  length-sealing v a p =
      let w = after_message mix v a p in
      omega (arith, length-append (ciphertext mix v a p) (tag_of mix w), length-ciphertext mix v a p, length-tag mix w)

  module _ (v a p c : List ℕ) (is : sealing_at mix v a p ≡ c) where
    shorter : length c - 8 ≡ length p
    shorter = omega (arith, ap length is, length-sealing v a p)

    front : take (length c - 8) c ≡ ciphertext mix v a p
    unfolding sealing_at
    front = rw (shorter, ← is) (take_at (ciphertext mix v a p) _ (length p) (length-ciphertext mix v a p))

    back : drop (length c - 8) c ≡ tag_of mix (after_message mix v a p)
    unfolding sealing_at
    back = rw (shorter, ← is) (drop_at (ciphertext mix v a p) _ (length p) (length-ciphertext mix v a p))

    -- sealed bytes give their message
    pub plain_sealing : plaintext mix v a c ≡ p
    unfolding plaintext ciphertext
    plain_sealing = rw front (dec-enc mix message_pad p (after_data mix v a) 0)

    in_sealing : after_plaintext mix v a c ≡ after_message mix v a p
    unfolding after_plaintext ciphertext after_message
    in_sealing = rw front (after-dec-enc mix message_pad p (after_data mix v a) 0)

    -- and their last eight are the tag
    pub tag_sealing : tag_of mix (after_plaintext mix v a c) ≡ drop (length c - 8) c
    tag_sealing = cc (in_sealing, back)

  -- every other message has other sealed bytes
  pub sealing_one : (v a p q : List ℕ) → sealing_at mix v a p ≡ sealing_at mix v a q → p ≡ q
  sealing_one v a p q e = sym (plain_sealing v a p _ e) ∙ plain_sealing v a q _ refl

  module _ (v a c : List ℕ) where
    pub length-plain : length (plaintext mix v a c) ≡ length c - 8
    unfolding plaintext
    length-plain =
        length-told mix dec message_pad (λ old x. refl) (take (length c - 8) c) (after_data mix v a) 0
        ∙ length-take-le (length c - 8) c (omega arith)

    -- the state after a message that was deciphered is the one after it was enciphered
    pub in_plain : after_message mix v a (plaintext mix v a c) ≡ after_plaintext mix v a c
    unfolding plaintext after_plaintext after_message
    in_plain = after-enc-dec mix message_pad (take (length c - 8) c) (after_data mix v a) 0

    -- where the tag is right, the bytes are the sealed bytes of what they give
    pub sealing_plain :
        tag_of mix (after_plaintext mix v a c) ≡ drop (length c - 8) c → sealing_at mix v a (plaintext mix v a c) ≡ c
    unfolding sealing_at ciphertext plaintext
    sealing_plain e =
        let text = take (length c - 8) c in
        cc (enc-dec mix message_pad text (after_data mix v a) 0, in_plain, take-append-drop (length c - 8) c)

  after_last :
      (ts : List Telegram) (v : List ℕ) (t : Telegram) →
      after_telegrams mix v (ts ++ t ∷ []) ≡ after_telegram mix (after_telegrams mix v ts) t.aad t.message
  unfolding after_telegrams
  after_last [] v t = refl
  after_last (u ∷ ts) v t = after_last ts _ t

  -- the session's state after one telegram more
  pub session_more :
      (key nonce : List ℕ) (ts : List Telegram) (t : Telegram) →
      session_state mix key nonce (ts ++ t ∷ [])
      ≡ after_telegram mix (session_state mix key nonce ts) t.aad t.message
  unfolding session_state
  session_more key nonce ts t = after_last ts (session_begun mix key nonce) t
