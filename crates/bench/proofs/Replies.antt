-- Laws of the reply to a call, and to the call that a command is.
use Rattle.std.proofs.Common.{◌≡◌, ℕ, ◌+◌, ◌-◌, ◌≤◌, Bool, true, false, List, ◌++◌, length, drop, refl, ap, arith}
use Rattle.std.proofs.lemmas.List.{length-append, length-take}
use Rattle.link.specs.Calls.{Call, Start, Seal, Open, Left, Close}
use Rattle.link.specs.Calls.{Answer, started, sealed, opened, mixings_left, closed, refused}
use Rattle.link.specs.Questions.{questions, Verdict, passed, stopped, verdict}
use Rattle.link.specs.Sessions.{sealing_at, plaintext, genuine}
use Rattle.link.specs.Steps.{View, Outcome, opening, settled, step, Did}
use Rattle.link.proofs.Sealings.{length-sealing, length-plain}
use Rattle.bench.specs.declared.command.Part.{Part}
use Rattle.bench.specs.declared.command.Command.{Command}
use Rattle.bench.specs.declared.command.Command.TheVariants as command
use Rattle.bench.specs.Pools.{part_of, call, span}
use Rattle.link.specs.Calls.{bytes_told}

-- the length of the message or of the sealed bytes that a call hands over
abbrev pub handed : Call → ℕ
handed (Start key nonce out) = 0
handed (Seal a p out) = length p
handed (Open a c out) = length c
handed (Left out) = 0
handed (Close out) = 0

-- the byte of the command that is such a call
abbrev byte_of : Call → ℕ
byte_of (Start key nonce out) = 1
byte_of (Seal a p out) = 2
byte_of (Open a c out) = 3
byte_of (Left out) = 4
byte_of (Close out) = 5

-- an answer that a command with this byte can have
abbrev pub Suits : ℕ → Answer → Type 0
Suits op started = op ≡ 1
Suits op (sealed n) = op ≡ 2
Suits op (opened n) = op ≡ 3
Suits op (mixings_left n) = op ≡ 4
Suits op closed = op ≡ 5
Suits op (refused number values) = Unit {0}

-- the outcome of a call at an endpoint that showed e
pub record Sound (e : View) (k : Call) (o : Outcome) : Type 0 where
  pub suits : Suits (byte_of k) o.reply.answer
  pub within : bytes_told o.reply.answer ≤ length o.reply.output
  pub few : bytes_told o.reply.answer ≤ handed k + 8
  pub left : o.view.left ≤ e.left

module _ (mix : List ℕ → List ℕ) (e : View) where
  sound_opening : (a c out : List ℕ) (t : Bool) → Sound e (Open a c out) (opening mix e a c out t)
  sound_opening a c out true =
      let p = plaintext mix e.bytes a c in
      let n : length (p ++ drop (length c - 8) out) ≡ length p + length (drop (length c - 8) out) =
      length-append p (drop (length c - 8) out) in
      record {
        suits = refl;
        within = omega (arith, n, length-plain mix e.bytes a c);
        few = omega arith;
        left = omega arith;
      }
  sound_opening a c out false = record { suits = tt; within = omega arith; few = omega arith; left = omega arith }

  sound_done : (k : Call) → Sound e k (settled mix e k passed)
  sound_done (Start key nonce out) =
      record { suits = refl; within = omega arith; few = omega arith; left = omega arith }
  sound_done (Seal a p out) =
      let c = sealing_at mix e.bytes a p in
      let n : length (c ++ drop (length p + 8) out) ≡ length c + length (drop (length p + 8) out) =
      length-append c (drop (length p + 8) out) in
      record {
        suits = refl;
        within = omega (arith, n, length-sealing mix e.bytes a p);
        few = omega arith;
        left = omega arith;
      }
  sound_done (Open a c out) = sound_opening a c out (genuine mix e.bytes a c)
  sound_done (Left out) = record { suits = refl; within = omega arith; few = omega arith; left = omega arith }
  sound_done (Close out) = record { suits = refl; within = omega arith; few = omega arith; left = omega arith }

  sound_settled : (k : Call) (w : Verdict) → Sound e k (settled mix e k w)
  sound_settled k passed = sound_done k
  sound_settled k (stopped n vs) = record { suits = tt; within = omega arith; few = omega arith; left = omega arith }

  pub sound : (k : Call) → Sound e k (step mix e k)
  sound k = sound_settled k (verdict (questions e.phase e.left k))

length_part : (pool : List ℕ) (p : Part) → length (part_of pool p) ≤ p.len
length_part pool p = simp length-take (omega arith)

pub handed_span : (pool work : List ℕ) (c : Command) → handed (call pool work c) ≤ span c
handed_span pool work (command.Start key nonce) = omega arith
handed_span pool work (command.Seal aad message) = length_part pool message
handed_span pool work (command.Open aad sealed_bytes) = length_part pool sealed_bytes
handed_span pool work command.Left = omega arith
handed_span pool work command.Close = omega arith

-- a command is answered with few bytes more than it names
pub few_told :
    {mix : List ℕ → List ℕ} {e e' : View} {a : Answer} {output : List ℕ} (pool work : List ℕ) (c : Command) →
    Did mix e (call pool work c) a output e' → bytes_told a ≤ span c + 8
few_told {mix} {e} pool work c d =
    omega (arith, (sound mix e (call pool work c)).few, handed_span pool work c, ap bytes_told d.answers)
