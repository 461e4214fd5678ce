-- What the two calls answer, and what their output holds after.
use Rattle.std.specs.Prelude.{ℕ, ◌+◌, ◌-◌, List, [], ◌∷◌, ◌++◌, length, drop, Some, None, Option, ◌==◌, nat_le}
use Rattle.link.specs.Blocks.{zeros}
use Rattle.link.specs.declared.phase.Phase.TheVariants.{Idle, Live}
use Rattle.link.specs.Calls.{Call, Start, lent, Reply, sealed, opened, refused}
use Rattle.link.specs.Questions.{Question, Verdict, passed, stopped, ask, verdict, questions}
use Rattle.link.specs.Sessions.{session_begun}
use Rattle.link.specs.Steps.{View, reply, step}
use Rattle.cbeam128r1.specs.Published.{encryption, decryption}

-- From here on a is the associated data, p the message, c the sealed bytes, and out what the output holds before.

abbrev pub encrypt_questions : (key nonce a p out : List ℕ) → List Question
encrypt_questions key nonce a p out =
    ask 3 (length key == 16)
    ∷ ask 4 (length nonce == 8)
    ∷ ask 5 (nat_le (length a) 65535)
    ∷ ask 6 (nat_le (length p) 65535)
    ∷ ask 8 (nat_le (length p + 8) (length out))
    ∷ []

abbrev pub decrypt_questions : (key nonce a c out : List ℕ) → List Question
decrypt_questions key nonce a c out =
    ask 3 (length key == 16)
    ∷ ask 4 (length nonce == 8)
    ∷ ask 5 (nat_le (length a) 65535)
    ∷ ask 6 (nat_le (length c) 65543)
    ∷ ask 7 (nat_le 8 (length c))
    ∷ ask 8 (nat_le (length c - 8) (length out))
    ∷ []

-- the reply where the questions are passed, and where one of them is answered no, which leaves the output
abbrev pub by_verdict : Verdict → (out : List ℕ) → Reply → Reply
by_verdict passed out done = done
by_verdict (stopped number values) out done = reply (refused number values) out

abbrev pub encrypt_reply : (key nonce a p out : List ℕ) → Reply
encrypt_reply key nonce a p out =
    by_verdict (verdict (encrypt_questions key nonce a p out)) out
    (reply (sealed (length p + 8)) (encryption key nonce a p ++ drop (length p + 8) out))

-- the reply to sealed bytes of a message of n bytes, by what their decryption gives
abbrev pub by_decryption : ℕ → (out : List ℕ) → Option (List ℕ) → Reply
by_decryption n out (Some p) = reply (opened n) (p ++ drop n out)
by_decryption n out None = reply (refused 10 []) (zeros n ++ drop n out)

abbrev pub decrypt_reply : (key nonce a c out : List ℕ) → Reply
decrypt_reply key nonce a c out =
    by_verdict (verdict (decrypt_questions key nonce a c out)) out
    (by_decryption (length c - 8) out (decryption key nonce a c))

-- an endpoint at which a session has just begun, over an engine that was given so many mixings
abbrev pub begun_view : (List ℕ → List ℕ) → (given : ℕ) → (key nonce : List ℕ) → View
begun_view mix given key nonce = record { phase = Live; bytes = session_begun mix key nonce; left = given - 3 }

-- the reply to the one call c of a session, at a new endpoint over such an engine
abbrev pub single_reply : (List ℕ → List ℕ) → (given : ℕ) → (key nonce : List ℕ) → Call → Reply
single_reply mix given key nonce c =
    by_verdict (verdict (questions Idle given (Start key nonce []))) (lent c)
    (step mix (begun_view mix given key nonce) c).reply
