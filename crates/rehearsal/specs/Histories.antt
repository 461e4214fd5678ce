-- What calls and their replies say by themselves: the session that they make, and the mixings that they took.
use Rattle.std.specs.Prelude.{◌≡◌, ℕ, ◌+◌, cond, List, [], ◌∷◌, ◌++◌, length, take, ◌==◌}
use Rattle.link.specs.Sessions.{Telegram}
use Rattle.link.specs.Calls.{Call, Start, Seal, Open, Left, Close, Reply}
use Rattle.link.specs.Calls.{Answer, started, sealed, opened, mixings_left, closed, refused}
use Rattle.link.specs.Questions.{price}
use Rattle.rehearsal.specs.Model.{telegram}

-- key and nonce of the last accepted start, and the telegrams accepted since; none where no session is live
pub data Session : Type 0 where
  none : Session
  since : (key nonce : List ℕ) (telegrams : List Telegram) → Session

-- what an accepted start begins
abbrev pub begun_by : Call → Session
begun_by (Start key nonce out) = since key nonce []
begun_by (Seal a p out) = none
begun_by (Open a c out) = none
begun_by (Left out) = none
begun_by (Close out) = none

-- the telegram that an accepted seal or opening adds: an opening's message is the n bytes that it wrote
abbrev pub added_by : Call → (n : ℕ) (output : List ℕ) → List Telegram
added_by (Start key nonce out) n o = []
added_by (Seal a p out) n o = telegram a p ∷ []
added_by (Open a c out) n o = telegram a (take n o) ∷ []
added_by (Left out) n o = []
added_by (Close out) n o = []

abbrev pub with_more : Session → List Telegram → Session
with_more none us = none
with_more (since key nonce ts) us = since key nonce (ts ++ us)

-- the session after one call more, by its answer and output
abbrev pub next_session : Session → Call → Answer → List ℕ → Session
next_session s c started o = begun_by c
next_session s c (sealed n) o = with_more s (added_by c n o)
next_session s c (opened n) o = with_more s (added_by c n o)
next_session s c (mixings_left n) o = s
next_session s c closed o = none
next_session s c (refused number values) o = s

unfoldable pub session_after : Session → List Call → List Reply → Session
session_after s [] rs = s
session_after s (c ∷ cs) [] = s
session_after s (c ∷ cs) (r ∷ rs) = session_after (next_session s c r.answer r.output) cs rs

-- the session that calls on a new endpoint and their replies make
abbrev pub session_of : List Call → List Reply → Session
session_of cs rs = session_after none cs rs

-- the mixings that a call took, by its answer: 3 for an accepted start, the cost of a telegram for a seal or opening
-- that was accepted, or refused for its tag
unfoldable pub took : Call → Answer → ℕ
took c started = 3
took c (sealed n) = price c
took c (opened n) = price c
took c (mixings_left n) = 0
took c closed = 0
took c (refused number values) = cond (number == 10) (price c) 0

unfoldable pub spent : List Call → List Reply → ℕ
spent [] rs = 0
spent (c ∷ cs) [] = 0
spent (c ∷ cs) (r ∷ rs) = took c r.answer + spent cs rs

-- the call c was made and got the reply r, after the calls `before` and their replies `told`
pub record Made
    (cs : List Call) (rs : List Reply) (before : List Call) (told : List Reply) (c : Call) (r : Reply) : Type 0 where
  pub later : List Call
  pub rest : List Reply
  pub calls : cs ≡ before ++ c ∷ later
  pub replies : rs ≡ told ++ r ∷ rest
  pub as_many : length before ≡ length told
