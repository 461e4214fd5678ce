-- What an endpoint does at a call, on its phase, its 32 bytes and its mixings left.
use Rattle.std.specs.Prelude.{◌≡◌, ℕ, ◌+◌, ◌-◌, Bool, true, false, List, [], ◌++◌, length, drop}
use Rattle.link.specs.declared.phase.Phase.{Phase}
use Rattle.link.specs.declared.phase.Phase.TheVariants.{Idle, Live}
use Rattle.link.specs.declared.endpoint.Endpoint.{Endpoint}
use Rattle.link.specs.Blocks.{zeros}
use Rattle.link.specs.Sessions.{
  session_begun,
  sealing_at,
  after_telegram,
  plaintext,
  after_plaintext,
  after_tag,
  genuine,
}
use Rattle.link.specs.Calls.{
  Call,
  Start,
  Seal,
  Open,
  Left,
  Close,
  lent,
  Answer,
  started,
  sealed,
  opened,
  mixings_left,
  closed,
  refused,
  Reply,
}
use Rattle.link.specs.Questions.{questions, Verdict, passed, stopped, verdict, price}

pub record View : Type 0 where
  pub phase : Phase
  pub bytes : List ℕ
  pub left : ℕ

-- what an endpoint shows, by what its engine means
abbrev pub view : {E : Type 0} → (E → List ℕ) → (E → ℕ) → Endpoint E → View
view bytes budget e = record { phase = e.phase; bytes = bytes e.engine; left = budget e.engine }

-- a new endpoint over an engine with these bytes and this number of mixings left
abbrev pub fresh : List ℕ → ℕ → View
fresh bytes given = record { phase = Idle; bytes = bytes; left = given }

abbrev pub reply : Answer → List ℕ → Reply
reply answer output = record { answer = answer; output = output }

pub record Outcome : Type 0 where
  pub reply : Reply
  pub view : View

abbrev pub outcome : Answer → List ℕ → Phase → List ℕ → ℕ → Outcome
outcome answer output phase bytes left =
    record { reply = reply answer output; view = record { phase = phase; bytes = bytes; left = left } }

-- an opening that has passed every question but the last, by whether the tag is right
abbrev pub opening : (List ℕ → List ℕ) → View → List ℕ → List ℕ → List ℕ → Bool → Outcome
opening mix e a c out true =
    outcome (opened (length c - 8)) (plaintext mix e.bytes a c ++ drop (length c - 8) out)
    Live (after_tag mix (after_plaintext mix e.bytes a c)) (e.left - price (Open a c out))
opening mix e a c out false =
    outcome (refused 10 []) (zeros (length c - 8) ++ drop (length c - 8) out)
    e.phase e.bytes (e.left - price (Open a c out))

-- a call that has passed its questions
abbrev pub done : (List ℕ → List ℕ) → View → Call → Outcome
done mix e (Start key nonce out) = outcome started out Live (session_begun mix key nonce) (e.left - 3)
done mix e (Seal a p out) =
    outcome (sealed (length p + 8)) (sealing_at mix e.bytes a p ++ drop (length p + 8) out)
    Live (after_telegram mix e.bytes a p) (e.left - price (Seal a p out))
done mix e (Open a c out) = opening mix e a c out (genuine mix e.bytes a c)
done mix e (Left out) = record { reply = reply (mixings_left e.left) out; view = e }
done mix e (Close out) = outcome closed out Idle (zeros 32) e.left

-- a call that one of its questions stops changes nothing
abbrev pub settled : (List ℕ → List ℕ) → View → Call → Verdict → Outcome
settled mix e c passed = done mix e c
settled mix e c (stopped n vs) = record { reply = reply (refused n vs) (lent c); view = e }

abbrev pub step : (List ℕ → List ℕ) → View → Call → Outcome
step mix e c = settled mix e c (verdict (questions e.phase e.left c))

-- What a contract says of one call: the answer, the output after it and the endpoint after it are those of `step`.
pub record Did
    (mix : List ℕ → List ℕ) (e : View) (c : Call) (answer : Answer) (output : List ℕ) (after : View) : Type 0 where
  pub answers : answer ≡ (step mix e c).reply.answer
  pub writes : output ≡ (step mix e c).reply.output
  pub shows : after ≡ (step mix e c).view
