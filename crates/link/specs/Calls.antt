-- The calls of an endpoint and their answers.
use Rattle.std.specs.Prelude.{ℕ, List, [], ◌∷◌, Ok, Err, Result}
use Rattle.engine.specs.States.{Bytes}
use Rattle.link.specs.declared.refusal.Refusal.{Refusal}
use Rattle.link.specs.declared.refusal.Refusal.TheVariants.{
  NotLive,
  NotIdle,
  KeyLength,
  NonceLength,
  DataLength,
  MessageLength,
  TagMissing,
  OutputLength,
  Mixings,
  Tag,
}
use Rattle.link.specs.declared.call.Call as made
use Rattle.link.specs.declared.call.Call.TheVariants as call
use Rattle.link.specs.declared.call.Answer as told
use Rattle.link.specs.declared.call.Answer.TheVariants as answer

-- the bytes that a call hands over; `out` is the output lent with it, which only Seal and Open write
pub data Call : Type 0 where
  Start : (key nonce out : List ℕ) → Call
  Seal : (aad message out : List ℕ) → Call
  Open : (aad sealed_bytes out : List ℕ) → Call
  Left : (out : List ℕ) → Call
  Close : (out : List ℕ) → Call

-- what a call's output holds before it
abbrev pub lent : Call → List ℕ
lent (Start key nonce out) = out
lent (Seal a p out) = out
lent (Open a c out) = out
lent (Left out) = out
lent (Close out) = out

-- what it hands over to be read is bytes
abbrev pub CallBytes : Call → Type 0
CallBytes (Start key nonce out) = Bytes key × Bytes nonce
CallBytes (Seal a p out) = Bytes a × Bytes p
CallBytes (Open a c out) = Bytes a × Bytes c
CallBytes (Left out) = Unit {0}
CallBytes (Close out) = Unit {0}

-- a refusal has its number and the values that are told with it
pub data Answer : Type 0 where
  started : Answer
  sealed : (length : ℕ) → Answer
  opened : (length : ℕ) → Answer
  mixings_left : ℕ → Answer
  closed : Answer
  refused : (number : ℕ) (values : List ℕ) → Answer

-- each refusal's number and values
abbrev pub refusal : Refusal → Answer
refusal NotLive = refused 1 []
refusal NotIdle = refused 2 []
refusal KeyLength = refused 3 []
refusal NonceLength = refused 4 []
refusal DataLength = refused 5 []
refusal MessageLength = refused 6 []
refusal TagMissing = refused 7 []
refusal OutputLength = refused 8 []
refusal (Mixings short) = refused 9 (short.wanted ∷ short.left ∷ [])
refusal Tag = refused 10 []

-- the number that an answer refuses with; 0 where it is no refusal
abbrev pub number_of : Answer → ℕ
number_of started = 0
number_of (sealed n) = 0
number_of (opened n) = 0
number_of (mixings_left n) = 0
number_of closed = 0
number_of (refused number values) = number

-- how many bytes an answer tells; they stand at the head of the output
abbrev pub bytes_told : Answer → ℕ
bytes_told started = 0
bytes_told (sealed n) = n
bytes_told (opened n) = n
bytes_told (mixings_left n) = 0
bytes_told closed = 0
bytes_told (refused number values) = 0

-- the answer that a result is, by what it says where it is not a refusal
abbrev pub answered : {A : Type 0} → (A → Answer) → Result A Refusal → Answer
answered said (Ok x) = said x
answered said (Err e) = refusal e

-- a call as a value, with the output lent beside it
abbrev pub call_of : made.Call → List ℕ → Call
call_of (call.Start key nonce) out = Start key.now nonce.now out
call_of (call.Seal aad message) out = Seal aad.now message.now out
call_of (call.Open aad sealed_bytes) out = Open aad.now sealed_bytes.now out
call_of call.Left out = Left out
call_of call.Close out = Close out

-- the answer to a call that is not refused, and to any call
abbrev pub accepted : told.Answer → Answer
accepted answer.Started = started
accepted (answer.Sealed n) = sealed n
accepted (answer.Opened n) = opened n
accepted (answer.Left n) = mixings_left n
accepted answer.Closed = closed

abbrev pub answer_of : Result told.Answer Refusal → Answer
answer_of r = answered accepted r

-- an answer, and what the output holds after it
pub record Reply : Type 0 where
  pub answer : Answer
  pub output : List ℕ
