-- The state of a session is a state and its messages are bytes; mixing functions that agree on states have the same
-- sessions.
use Rattle.std.proofs.Common.{◌≡◌, ℕ, ◌<◌, List, [], ◌∷◌, ◌++◌, refl, arith}
use Rattle.engine.specs.States.{Bytes, State, Mixes, Agree}
use Rattle.engine.proofs.StateLaws.{bytes_take, bytes_zeros, state_zeros}
use Rattle.link.specs.Blocks.{Op, put, get, enc, dec, told, after, zeros}
use Rattle.link.specs.Sessions.{key_pad, nonce_pad, data_pad, message_pad, tag_pad}
use Rattle.link.specs.Sessions.{after_data, ciphertext, after_message, tag_of, after_tag, sealing_at, after_telegram}
use Rattle.link.specs.Sessions.{plaintext, Telegram, session_begun, after_telegrams, session_state, sealing}
use Rattle.link.proofs.Bytewise.{after_state, told_bytes, after_same, told_same}

abbrev pub TelegramsBytes : List Telegram → Type 0
TelegramsBytes [] = Unit {0}
TelegramsBytes (t ∷ ts) = Bytes t.aad × Bytes t.message × TelegramsBytes ts

pub telegrams_more :
    (ts : List Telegram) (t : Telegram) → TelegramsBytes ts → Bytes t.aad → Bytes t.message →
    TelegramsBytes (ts ++ t ∷ [])
telegrams_more [] t h a p = (a, p, tt)
telegrams_more (u ∷ ts) t h a p = (h.0, h.1, telegrams_more ts t h.2 a p)

-- key, nonce and telegrams of a session are bytes
abbrev pub SessionBytes : List ℕ → List ℕ → List Telegram → Type 0
SessionBytes key nonce ts = Bytes key × Bytes nonce × TelegramsBytes ts

module _ (mix : List ℕ → List ℕ) (M : Mixes mix) where
  key_state : (key : List ℕ) → Bytes key → State (after mix put key_pad (zeros 32) 0 key)
  key_state key h = after_state mix M key_pad (omega arith) put key (zeros 32) 0 state_zeros h

  begun_state : (key nonce : List ℕ) → Bytes key → Bytes nonce → State (session_begun mix key nonce)
  begun_state key nonce h k = after_state mix M nonce_pad (omega arith) put nonce _ 0 (key_state key h) k

  data_state : (v a : List ℕ) → State v → Bytes a → State (after_data mix v a)
  unfolding after_data
  data_state v a h k = after_state mix M data_pad (omega arith) put a v 0 h k

  message_state : (v a p : List ℕ) → State v → Bytes a → Bytes p → State (after_message mix v a p)
  unfolding after_message
  message_state v a p h k l = after_state mix M message_pad (omega arith) enc p _ 0 (data_state v a h k) l

  telegram_state : (v a p : List ℕ) → State v → Bytes a → Bytes p → State (after_telegram mix v a p)
  unfolding after_telegram after_tag
  telegram_state v a p h k l =
      after_state mix M tag_pad (omega arith) get (zeros 8) _ 0 (message_state v a p h k l) (bytes_zeros 8)

  telegrams_state : (ts : List Telegram) (v : List ℕ) → State v → TelegramsBytes ts → State (after_telegrams mix v ts)
  unfolding after_telegrams
  telegrams_state [] v h k = h
  telegrams_state (t ∷ ts) v h k = telegrams_state ts _ (telegram_state v t.aad t.message h k.0 k.1) k.2

  session_is_state :
      (key nonce : List ℕ) (ts : List Telegram) → SessionBytes key nonce ts → State (session_state mix key nonce ts)
  unfolding session_state
  session_is_state key nonce ts b = telegrams_state ts _ (begun_state key nonce b.0 b.1) b.2

  -- what sealed bytes give is bytes
  pub plain_bytes :
      (key nonce : List ℕ) (ts : List Telegram) (a c : List ℕ) → SessionBytes key nonce ts → Bytes a → Bytes c →
      Bytes (plaintext mix (session_state mix key nonce ts) a c)
  unfolding plaintext
  plain_bytes key nonce ts a c b k l =
      let v = session_is_state key nonce ts b in
      told_bytes mix M message_pad (omega arith) dec _ _ 0 (data_state _ a v k) (bytes_take _ c l)

  module _ (mix' : List ℕ → List ℕ) (same : Agree mix mix') where
    -- from the same state on
    after_alike :
        (op : Op) (pad : ℕ) → pad < 256 → (xs : List ℕ) {v w : List ℕ} → State v → Bytes xs → v ≡ w →
        after mix op pad v 0 xs ≡ after mix' op pad w 0 xs
    after_alike op pad l xs h k e = cc (after_same mix M pad l mix' same op xs _ 0 h k)

    told_alike :
        (op : Op) (pad : ℕ) → pad < 256 → (xs : List ℕ) {v w : List ℕ} → State v → Bytes xs → v ≡ w →
        told mix op pad v 0 xs ≡ told mix' op pad w 0 xs
    told_alike op pad l xs h k e = cc (told_same mix M pad l mix' same op xs _ 0 h k)

    key_same :
        (key : List ℕ) → Bytes key → after mix put key_pad (zeros 32) 0 key ≡ after mix' put key_pad (zeros 32) 0 key
    key_same key h = after_alike put key_pad (omega arith) key state_zeros h refl

    begun_same :
        (key nonce : List ℕ) → Bytes key → Bytes nonce → session_begun mix key nonce ≡ session_begun mix' key nonce
    begun_same key nonce h k =
        after_alike put nonce_pad (omega arith) nonce (key_state key h) k (key_same key h)

    module _ (v a p : List ℕ) (hv : State v) (ha : Bytes a) (hp : Bytes p) where
      data_same : after_data mix v a ≡ after_data mix' v a
      unfolding after_data
      data_same = after_alike put data_pad (omega arith) a hv ha refl

      ciphertext_same : ciphertext mix v a p ≡ ciphertext mix' v a p
      unfolding ciphertext
      ciphertext_same = told_alike enc message_pad (omega arith) p (data_state v a hv ha) hp data_same

      message_same : after_message mix v a p ≡ after_message mix' v a p
      unfolding after_message
      message_same = after_alike enc message_pad (omega arith) p (data_state v a hv ha) hp data_same

      before_tag : State (after_message mix v a p)
      before_tag = message_state v a p hv ha hp

      tag_same : tag_of mix (after_message mix v a p) ≡ tag_of mix' (after_message mix' v a p)
      unfolding tag_of
      tag_same = told_alike get tag_pad (omega arith) (zeros 8) before_tag (bytes_zeros 8) message_same

      telegram_same : after_telegram mix v a p ≡ after_telegram mix' v a p
      unfolding after_telegram after_tag
      telegram_same = after_alike get tag_pad (omega arith) (zeros 8) before_tag (bytes_zeros 8) message_same

      sealing_at_same : sealing_at mix v a p ≡ sealing_at mix' v a p
      unfolding sealing_at
      sealing_at_same = cc (ciphertext_same, tag_same)

    telegrams_same :
        (ts : List Telegram) (v : List ℕ) → State v → TelegramsBytes ts →
        after_telegrams mix v ts ≡ after_telegrams mix' v ts
    unfolding after_telegrams
    telegrams_same [] v h k = refl
    telegrams_same (t ∷ ts) v h k =
        let rest = telegrams_same ts _ (telegram_state v t.aad t.message h k.0 k.1) k.2 in
        cc (rest, telegram_same v t.aad t.message h k.0 k.1)

    session_same :
        (key nonce : List ℕ) (ts : List Telegram) → SessionBytes key nonce ts →
        session_state mix key nonce ts ≡ session_state mix' key nonce ts
    unfolding session_state
    session_same key nonce ts b =
        cc (telegrams_same ts _ (begun_state key nonce b.0 b.1) b.2, begun_same key nonce b.0 b.1)

    -- the same sealed bytes
    pub sealing_same :
        (key nonce : List ℕ) (ts : List Telegram) (a p : List ℕ) → SessionBytes key nonce ts → Bytes a → Bytes p →
        sealing mix key nonce ts a p ≡ sealing mix' key nonce ts a p
    unfolding sealing
    sealing_same key nonce ts a p b ha hp =
        let now = sealing_at_same (session_state mix key nonce ts) a p (session_is_state key nonce ts b) ha hp in
        cc (now, session_same key nonce ts b)
