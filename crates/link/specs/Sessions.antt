-- A session: its state, the sealed bytes of a telegram, what they give when they are opened, and the cost of both.
use Rattle.std.specs.Prelude.{ℕ, ◌+◌, ◌-◌, Bool, List, [], ◌∷◌, ◌++◌, length, take, drop}
use Rattle.std.specs.Str.{bytes_eq}
use Rattle.link.specs.Blocks.{put, get, enc, dec, told, after, mixings, zeros}

-- each kind of input has its pad
abbrev pub key_pad : ℕ
key_pad = 0x10

abbrev pub nonce_pad : ℕ
nonce_pad = 0x20

abbrev pub data_pad : ℕ
data_pad = 0x40

abbrev pub message_pad : ℕ
message_pad = 0x50

abbrev pub tag_pad : ℕ
tag_pad = 0x60

-- the cost, in mixings, of a telegram with a bytes of associated data and n of message
abbrev pub cost : ℕ → ℕ → ℕ
cost a n = mixings a + mixings n + 1

-- From here on v is the session's state before a telegram, a the telegram's associated data and p its message.

-- the state after the associated data
unfoldable pub after_data : (List ℕ → List ℕ) → List ℕ → List ℕ → List ℕ
after_data mix v a = after mix put data_pad v 0 a

-- the message enciphered, and the state after it
unfoldable pub ciphertext : (List ℕ → List ℕ) → List ℕ → List ℕ → List ℕ → List ℕ
ciphertext mix v a p = told mix enc message_pad (after_data mix v a) 0 p

unfoldable pub after_message : (List ℕ → List ℕ) → List ℕ → List ℕ → List ℕ → List ℕ
after_message mix v a p = after mix enc message_pad (after_data mix v a) 0 p

-- the tag that the state w gives, and the state after it
unfoldable pub tag_of : (List ℕ → List ℕ) → List ℕ → List ℕ
tag_of mix w = told mix get tag_pad w 0 (zeros 8)

unfoldable pub after_tag : (List ℕ → List ℕ) → List ℕ → List ℕ
after_tag mix w = after mix get tag_pad w 0 (zeros 8)

-- the sealed bytes of a telegram: ciphertext and tag; and the state that it leaves
unfoldable pub sealing_at : (List ℕ → List ℕ) → List ℕ → List ℕ → List ℕ → List ℕ
sealing_at mix v a p = ciphertext mix v a p ++ tag_of mix (after_message mix v a p)

unfoldable pub after_telegram : (List ℕ → List ℕ) → List ℕ → List ℕ → List ℕ → List ℕ
after_telegram mix v a p = after_tag mix (after_message mix v a p)

-- the message that sealed bytes c give when they are deciphered, and the state after it
unfoldable pub plaintext : (List ℕ → List ℕ) → List ℕ → List ℕ → List ℕ → List ℕ
plaintext mix v a c = told mix dec message_pad (after_data mix v a) 0 (take (length c - 8) c)

unfoldable pub after_plaintext : (List ℕ → List ℕ) → List ℕ → List ℕ → List ℕ → List ℕ
after_plaintext mix v a c = after mix dec message_pad (after_data mix v a) 0 (take (length c - 8) c)

-- whether the last eight of the sealed bytes are the tag that the session gives
abbrev pub genuine : (List ℕ → List ℕ) → List ℕ → List ℕ → List ℕ → Bool
genuine mix v a c = bytes_eq (tag_of mix (after_plaintext mix v a c)) (drop (length c - 8) c)

pub record Telegram : Type 0 where
  pub aad : List ℕ
  pub message : List ℕ

-- the state of a session that has just begun
abbrev pub session_begun : (List ℕ → List ℕ) → List ℕ → List ℕ → List ℕ
session_begun mix key nonce = after mix put nonce_pad (after mix put key_pad (zeros 32) 0 key) 0 nonce

unfoldable pub after_telegrams : (List ℕ → List ℕ) → List ℕ → List Telegram → List ℕ
after_telegrams mix v [] = v
after_telegrams mix v (t ∷ ts) = after_telegrams mix (after_telegram mix v t.aad t.message) ts

-- the session's state after key, nonce and a list of telegrams
unfoldable pub session_state : (List ℕ → List ℕ) → List ℕ → List ℕ → List Telegram → List ℕ
session_state mix key nonce ts = after_telegrams mix (session_begun mix key nonce) ts

-- the sealed bytes of the telegram that comes next
unfoldable pub sealing : (List ℕ → List ℕ) → List ℕ → List ℕ → List Telegram → List ℕ → List ℕ → List ℕ
sealing mix key nonce ts a p = sealing_at mix (session_state mix key nonce ts) a p
