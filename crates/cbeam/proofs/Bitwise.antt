-- The bits of a number, and what each operation on words does to them.
use Rattle.std.proofs.Common.{◌≡◌, ℕ, zero, suc, ◌+◌, ◌-◌, ◌*◌, ◌/◌, ◌%◌, ◌^◌, ◌<◌, ◌≤◌, sym, ap, ◌∙◌, not-suc-le-zero, mod-lt, mod-eq_of_lt, mul_assoc, add_comm, pow-suc, arith, pow-add, shr-shr}
use native.Mathlib.Decide.{ℕ_discrete}
use lib.Bits.{bit_and, bit_or, bit_xor, shifted_even, xor_add_and}
use lib.Pow.{shl-shr, mod-mod-pow}
use lib.Pow.{field, high, low}
use Rattle.std.proofs.lemmas.Nat.{and_shr, or_shr, xor_shr, and_mod, or_mod, xor_mod, and_mask}
use Rattle.std.proofs.lemmas.Nat.Bits.{bit_at_above, bit_at_ones, same_from_bits_below}
use Rattle.cbeam.specs.Bits.{bit, word}

pub bit_below : (a j : ℕ) → bit a j < 2
unfolding bit
bit_below a j = mod-lt (a / 2 ^ j) (omega arith)

-- ---- the operations, bit by bit

pub bit-xor : (a b j : ℕ) → bit (bit_xor a b) j ≡ bit_xor (bit a j) (bit b j)
unfolding bit
bit-xor a b j = ap (λ x. x % 2) (xor_shr a b j) ∙ xor_mod (a / 2 ^ j) (b / 2 ^ j) 1

pub bit-and : (a b j : ℕ) → bit (bit_and a b) j ≡ bit_and (bit a j) (bit b j)
unfolding bit
bit-and a b j = ap (λ x. x % 2) (and_shr a b j) ∙ and_mod (a / 2 ^ j) (b / 2 ^ j) 1

pub bit-or : (a b j : ℕ) → bit (bit_or a b) j ≡ bit_or (bit a j) (bit b j)
unfolding bit
bit-or a b j = ap (λ x. x % 2) (or_shr a b j) ∙ or_mod (a / 2 ^ j) (b / 2 ^ j) 1

pub bit-shr : (a k j : ℕ) → bit (a / 2 ^ k) j ≡ bit a (k + j)
unfolding bit
bit-shr a k j = ap (λ x. x % 2) (shr-shr a k j)

pub bit-mod : (a w j : ℕ) → j < w → bit (a % 2 ^ w) j ≡ bit a j
unfolding bit
bit-mod a w j h =
    let d : ℕ = w - suc j in
    let e : w ≡ (d + 1) + j = omega arith in
    ap (λ n. bit (a % 2 ^ n) j) e ∙ ap (λ x. x % 2) (field a (d + 1) j) ∙ mod-mod-pow (a / 2 ^ j) d 1

pub bit-shl_high : (a k j : ℕ) → bit (a * 2 ^ k) (k + j) ≡ bit a j
unfolding bit
bit-shl_high a k j = ap (λ x. x % 2) (sym (shr-shr (a * 2 ^ k) k j) ∙ ap (λ x. x / 2 ^ j) (shl-shr a k))

pub bit-shl_low : (a k j : ℕ) → j < k → bit (a * 2 ^ k) j ≡ 0
unfolding bit
bit-shl_low a k j h =
    let d : ℕ = k - suc j in
    let e : k ≡ suc d + j = omega arith in
    ap (λ n. bit (a * 2 ^ n) j) e
    ∙ ap (λ n. bit n j) (ap (λ n. a * n) (pow-add 2 (suc d) j) ∙ sym (mul_assoc a (2 ^ suc d) (2 ^ j)))
    ∙ ap (λ x. x % 2) (shl-shr (a * 2 ^ suc d) j)
    ∙ shifted_even a d

-- a shift to the left at 64 bits, from its amount up and below it
pub shl_in : (x n k : ℕ) → n ≤ k → k < 64 → bit (x * 2 ^ n % 2 ^ 64) k ≡ bit x (k - n)
shl_in x n k h l =
    let e : k ≡ n + (k - n) = omega arith in
    bit-mod (x * 2 ^ n) 64 k l ∙ ap (λ i. bit (x * 2 ^ n) i) e ∙ bit-shl_high x n (k - n)

pub shl_out : (x n k : ℕ) → k < n → k < 64 → bit (x * 2 ^ n % 2 ^ 64) k ≡ 0
shl_out x n k h l = bit-mod (x * 2 ^ n) 64 k l ∙ bit-shl_low x n k h

-- no bit stands from the width up
pub bit_none : (a w i : ℕ) → a < 2 ^ w → w ≤ i → bit a i ≡ 0
unfolding bit
bit_none a w i h l = bit_at_above a w i h l

pub and_one : (b : ℕ) → b < 2 → bit_and b 1 ≡ b
and_one b h = and_mask b 1 ∙ mod-eq_of_lt h

-- every bit of 2 ^ w - 1 below w is set
bit_ones : (w j : ℕ) → j < w → bit (2 ^ w - 1) j ≡ 1
unfolding bit
bit_ones w j h = bit_at_ones w j h

-- the complement at a width of w bits
not_xor : (w a : ℕ) → a < 2 ^ w → (2 ^ w - 1) - a ≡ bit_xor a (2 ^ w - 1)
not_xor w a h = omega (arith, xor_add_and a (2 ^ w - 1), and_mask a w, mod-eq_of_lt h)

pub bit_not : (w a j : ℕ) → a < 2 ^ w → j < w → bit ((2 ^ w - 1) - a) j ≡ bit_xor (bit a j) 1
bit_not w a j h l =
    ap (λ n. bit n j) (not_xor w a h) ∙ bit-xor a (2 ^ w - 1) j ∙ ap (λ n. bit_xor (bit a j) n) (bit_ones w j l)

-- ---- words made of bits

pub word_below : (n : ℕ) (f : ℕ → ℕ) → ((j : ℕ) → j < n → f j < 2) → word n f < 2 ^ n
unfolding word
word_below zero f h = omega arith
word_below (suc n) f h =
    let i : word n f < 2 ^ n = word_below n f (λ j l. h j (omega arith)) in
    let b : f n < 2 = h n (omega arith) in
    let e : 2 ^ suc n ≡ 2 ^ n * 2 = pow-suc 2 n in
    go (f n) b i e
  where
    go : (b : ℕ) → b < 2 → word n f < 2 ^ n → 2 ^ suc n ≡ 2 ^ n * 2 → word n f + b * 2 ^ n < 2 ^ suc n
    go zero l i e = omega arith
    go (suc zero) l i e = omega arith
    go (suc (suc b)) l i e = absurd (omega arith)

-- of one more bit on top, the top and the rest
word_top : (n : ℕ) (f : ℕ → ℕ) → ((j : ℕ) → j < suc n → f j < 2) → bit (word (suc n) f) n ≡ f n
unfolding bit word
word_top n f h =
    let i : word n f < 2 ^ n = word_below n f (λ j l. h j (omega arith)) in
    ap (λ x. bit x n) (add_comm (word n f) (f n * 2 ^ n))
    ∙ ap (λ x. x % 2) (high (f n) n i) ∙ mod-eq_of_lt (h n (omega arith))

word_rest : (n : ℕ) (f : ℕ → ℕ) → ((j : ℕ) → j < suc n → f j < 2)
    → (j : ℕ) → j < n → bit (word (suc n) f) j ≡ bit (word n f) j
unfolding word
word_rest n f h j l =
    let i : word n f < 2 ^ n = word_below n f (λ j l. h j (omega arith)) in
    sym (bit-mod (word (suc n) f) n j l)
    ∙ ap (λ x. bit x j) (ap (λ x. x % 2 ^ n) (add_comm (word n f) (f n * 2 ^ n)) ∙ low (f n) n i)

pub bit_word : (n : ℕ) (f : ℕ → ℕ) → ((j : ℕ) → j < n → f j < 2) → (j : ℕ) → j < n → bit (word n f) j ≡ f j
bit_word zero f h j l = absurd (not-suc-le-zero l)
bit_word (suc n) f h j l =
    elim (ℕ_discrete j n) [
      | yes e ↦ ap (λ k. bit (word (suc n) f) k) e ∙ word_top n f h ∙ sym (ap f e)
      | no ne ↦
          let k : j < n = omega arith in
          word_rest n f h j k ∙ bit_word n f (λ i m. h i (omega arith)) j k
    ]

-- two numbers of w bits with the same bits are the same
pub same_bits : (w a b : ℕ) → a < 2 ^ w → b < 2 ^ w → ((j : ℕ) → j < w → bit a j ≡ bit b j) → a ≡ b
unfolding bit
same_bits w a b ha hb h = same_from_bits_below w a b ha hb h
