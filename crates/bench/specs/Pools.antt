-- The parts of the pool that a command names, and the call that it is.
use Rattle.std.specs.Prelude.{◌≡◌, ℕ, ◌+◌, ◌*◌, Bool, true, ◌&&◌, List, take, drop, nat_le}
use Rattle.link.specs.Calls as calls
use Rattle.link.specs.Calls.{Call, call_of}
use Rattle.link.specs.declared.call.Call as made
use Rattle.bench.specs.declared.command.Part.{Part}
use Rattle.bench.specs.declared.command.Command.{Command}
use Rattle.bench.specs.declared.command.Command.TheVariants.{Start, Seal, Open, Left, Close}

-- the bytes of the pool from a place on
abbrev pub cut : List ℕ → (place len : ℕ) → List ℕ
cut pool place len = take len (drop place pool)

abbrev pub part_of : List ℕ → Part → List ℕ
part_of pool p = cut pool p.place p.len

-- do they lie in a pool of this length?
abbrev pub inside : (long place len : ℕ) → Bool
inside long place len = nat_le (place + len) long

abbrev pub part_inside : ℕ → Part → Bool
part_inside long p = inside long p.place p.len

-- do all the parts that a command names?
abbrev pub lies : ℕ → Command → Bool
lies long (Start key nonce) = inside long key 16 && inside long nonce 8
lies long (Seal aad message) = part_inside long aad && part_inside long message
lies long (Open aad sealed_bytes) = part_inside long aad && part_inside long sealed_bytes
lies long Left = true
lies long Close = true

-- the call that a command is; the work area is lent as its output
abbrev pub call : (pool work : List ℕ) → Command → Call
call pool work (Start key nonce) = calls.Start (cut pool key 16) (cut pool nonce 8) work
call pool work (Seal aad message) = calls.Seal (part_of pool aad) (part_of pool message) work
call pool work (Open aad sealed_bytes) = calls.Open (part_of pool aad) (part_of pool sealed_bytes) work
call pool work Left = calls.Left work
call pool work Close = calls.Close work

-- a call as a value is the one that a command is
abbrev pub IsCall : (pool : List ℕ) → Command → made.Call → Type 0
IsCall pool c m = (out : List ℕ) → call_of m out ≡ call pool out c

-- the length of the message or of the sealed bytes, or 0
abbrev pub span : Command → ℕ
span (Start key nonce) = 0
span (Seal aad message) = message.len
span (Open aad sealed_bytes) = sealed_bytes.len
span Left = 0
span Close = 0

-- the bytes that must be free in the listing before a command is carried out
abbrev pub room : Command → ℕ
room c = 64 + 2 * (span c + 8)
