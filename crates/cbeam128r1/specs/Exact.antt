-- Which sealed bytes are opened, and to what, by the published encryption alone.
use Rattle.std.specs.Prelude.{◌≡◌, ℕ, ◌-◌, ◌⊎◌, List, [], ◌++◌, length, drop, ◌≢◌}
use Rattle.engine.specs.States.{Bytes}
use Rattle.link.specs.Blocks.{zeros}
use Rattle.link.specs.Calls.{Answer, opened, refused}
use Rattle.link.specs.Questions.{passed, verdict}
use Rattle.cbeam128r1.specs.Published.{encryption}
use Rattle.cbeam128r1.specs.OneShot.{decrypt_questions}

-- one message, and no other, has c for its encryption, and it is told
pub record Opened (key nonce a c out : List ℕ) (answer : Answer) (output : List ℕ) : Type 0 where
  pub message : List ℕ
  pub bytes : Bytes message
  pub encrypts : encryption key nonce a message ≡ c
  pub only : (q : List ℕ) → encryption key nonce a q ≡ c → q ≡ message
  pub answers : answer ≡ opened (length message)
  pub writes : output ≡ message ++ drop (length message) out

-- no message has c for its encryption, and none is told
pub record Forged (key nonce a c out : List ℕ) (answer : Answer) (output : List ℕ) : Type 0 where
  pub none : (q : List ℕ) → encryption key nonce a q ≢ c
  pub answers : answer ≡ refused 10 []
  pub writes : output ≡ zeros (length c - 8) ++ drop (length c - 8) out

-- Once the questions are passed it is one or the other; it is never both.
abbrev pub Exact : (key nonce a c out : List ℕ) → Answer → (output : List ℕ) → Type 0
Exact key nonce a c out answer output =
    verdict (decrypt_questions key nonce a c out) ≡ passed →
    Opened key nonce a c out answer output ⊎ Forged key nonce a c out answer output
