-- The text of a listing.
use Rattle.std.specs.Prelude.{ℕ, ◌+◌, ◌/◌, ◌%◌, cond, List, [], ◌∷◌, ◌++◌, take, codes, decimal, nat_lt}
use Rattle.link.specs.Calls.{Answer, started, sealed, opened, mixings_left, closed, refused, bytes_told, Reply}
use Rattle.bench.specs.declared.command.Command.{Command}
use Rattle.bench.specs.Commands.{opcode}

-- a capital hexadecimal digit
abbrev pub hex_digit : ℕ → ℕ
hex_digit d = cond (nat_lt d 10) (48 + d) (55 + d)

-- each byte in two of them
abbrev pub hex : List ℕ → List ℕ
hex [] = []
hex (b ∷ bs) = hex_digit (b / 16) ∷ hex_digit (b % 16) ∷ hex bs

-- numbers, each behind a space
abbrev pub spaced : List ℕ → List ℕ
spaced [] = []
spaced (v ∷ vs) = codes " " ++ (decimal v ++ spaced vs)

-- the bytes that it tells
abbrev pub shown : Reply → List ℕ
shown r = take (bytes_told r.answer) r.output

abbrev pub answer_text : Answer → List ℕ → List ℕ
answer_text started out = codes "ok"
answer_text (sealed n) out = codes "ok " ++ hex (take n out)
answer_text (opened n) out = codes "ok " ++ hex (take n out)
answer_text (mixings_left n) out = decimal n
answer_text closed out = codes "ok"
answer_text (refused number values) out = codes "no " ++ (decimal number ++ spaced values)

-- a command and the reply to it, without the end of the line
unfoldable pub told_line : Command → Reply → List ℕ
told_line c r = hex (opcode c ∷ []) ++ (codes " " ++ answer_text r.answer r.output)

-- a line ends with the byte 10
abbrev pub line : List ℕ → List ℕ
line text = text ++ 10 ∷ []

-- the last line: all of the script was carried out, or it was stopped at a place for a number
pub data Ending : Type 0 where
  ended : Ending
  stopped_at : (number place : ℕ) → Ending

unfoldable pub ending_line : Ending → List ℕ
ending_line ended = codes "end"
ending_line (stopped_at number place) = codes "stop " ++ (decimal number ++ (codes " at " ++ decimal place))
