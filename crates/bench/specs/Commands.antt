-- The commands of a script: their bytes, and how they are read.
use Rattle.std.specs.Prelude.{ℕ, ◌+◌, ◌*◌, ◌/◌, ◌%◌, Bool, cond, ◌&&◌, List, [], ◌∷◌, ◌++◌, ◌==◌, nat_le, slice_index}
use Rattle.std.specs.List.{flat_map}
use Rattle.bench.specs.declared.command.Part.{Part}
use Rattle.bench.specs.declared.command.Command.{Command}
use Rattle.bench.specs.declared.command.Command.TheVariants.{Start, Seal, Open, Left, Close}

-- the byte that names a command
abbrev pub opcode : Command → ℕ
opcode (Start key nonce) = 1
opcode (Seal aad message) = 2
opcode (Open aad sealed_bytes) = 3
opcode Left = 4
opcode Close = 5

-- a number in 2 bytes, the lower first
abbrev pub two_bytes : ℕ → List ℕ
two_bytes n = n % 256 ∷ n / 256 ∷ []

abbrev pub part_bytes : Part → List ℕ
part_bytes p = two_bytes p.place ++ two_bytes p.len

abbrev pub operands : Command → List ℕ
operands (Start key nonce) = two_bytes key ++ two_bytes nonce
operands (Seal aad message) = part_bytes aad ++ part_bytes message
operands (Open aad sealed_bytes) = part_bytes aad ++ part_bytes sealed_bytes
operands Left = []
operands Close = []

-- the bytes of a command, and of commands in a row
abbrev pub encoded : Command → List ℕ
encoded c = opcode c ∷ operands c

abbrev pub encodings : List Command → List ℕ
encodings cs = flat_map encoded cs

-- Reading goes the other way, from the head of some bytes.

-- is this the first byte of a command?
abbrev pub known : ℕ → Bool
known op = nat_le 1 op && nat_le op 5

-- how many bytes a command with this first byte has
abbrev pub size : ℕ → ℕ
size op = cond (op == 1) 5 (cond (op == 2) 9 (cond (op == 3) 9 1))

-- the number in the 2 bytes from a place on
abbrev pub field : List ℕ → ℕ → ℕ
field bytes at = slice_index bytes at + 256 * slice_index bytes (at + 1)

abbrev pub part_at : List ℕ → ℕ → Part
part_at bytes at = record { place = field bytes at; len = field bytes (at + 2) }

-- the command at the head of bytes that begin with a known byte and whole operands
unfoldable pub command_of : List ℕ → Command
command_of bytes =
    cond (slice_index bytes 0 == 1) (Start (field bytes 1) (field bytes 3))
    (cond (slice_index bytes 0 == 2) (Seal (part_at bytes 1) (part_at bytes 5))
    (cond (slice_index bytes 0 == 3) (Open (part_at bytes 1) (part_at bytes 5))
    (cond (slice_index bytes 0 == 4) Left Close)))
