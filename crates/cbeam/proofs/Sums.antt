-- Sums of numbers by exclusive-or: of four, one with the sum of all is the sum of the other three.
use Rattle.std.proofs.Common.{◌≡◌, ℕ, ◌+◌, ◌%◌, ◌<◌, sym, refl, ap, ◌∙◌}
use lib.Bits.{bit_xor, xor_assoc, xor_comm, xor_self}
use Rattle.cbeam.proofs.Computed.{below_four}

pub cancel : (a b : ℕ) → bit_xor a (bit_xor a b) ≡ b
cancel a b = sym (xor_assoc a a b) ∙ ap (λ n. bit_xor n b) (xor_self a)

abbrev pub sum : ℕ → ℕ → ℕ → ℕ → ℕ
sum a b c d = bit_xor (bit_xor (bit_xor a b) c) d

first_apart : (a b c d : ℕ) → sum a b c d ≡ bit_xor a (bit_xor (bit_xor b c) d)
first_apart a b c d = ap (λ n. bit_xor n d) (xor_assoc a b c) ∙ xor_assoc a (bit_xor b c) d

first_last : (a b c d : ℕ) → sum a b c d ≡ sum b c d a
first_last a b c d = first_apart a b c d ∙ xor_comm a (bit_xor (bit_xor b c) d)

without_first : (a b c d s : ℕ) → s ≡ sum a b c d → bit_xor a s ≡ bit_xor (bit_xor b c) d
without_first a b c d s e = ap (bit_xor a) (e ∙ first_apart a b c d) ∙ cancel a (bit_xor (bit_xor b c) d)

-- over four places in a circle: what stands at u with the sum of all is the sum of the three that follow
pub others : (f : ℕ → ℕ) (u : ℕ) → u < 4
    → bit_xor (f u) (sum (f 0) (f 1) (f 2) (f 3)) ≡ bit_xor (bit_xor (f ((u + 1) % 4)) (f ((u + 2) % 4))) (f ((u + 3) % 4))
others f =
    let a : ℕ = f 0 in
    let b : ℕ = f 1 in
    let c : ℕ = f 2 in
    let d : ℕ = f 3 in
    let s : ℕ = sum a b c d in
    let e1 : s ≡ sum b c d a = first_last a b c d in
    let e2 : s ≡ sum c d a b = e1 ∙ first_last b c d a in
    let e3 : s ≡ sum d a b c = e2 ∙ first_last c d a b in
    below_four (λ u. bit_xor (f u) s ≡ bit_xor (bit_xor (f ((u + 1) % 4)) (f ((u + 2) % 4))) (f ((u + 3) % 4)))
    (without_first a b c d s refl) (without_first b c d a s e1)
    (without_first c d a b s e2) (without_first d a b c s e3)
