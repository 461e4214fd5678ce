-- The 32 bytes of words of n bytes each: reading one, and putting one in.
use Rattle.std.proofs.Common.{◌≡◌, ℕ, ◌+◌, ◌*◌, ◌/◌, ◌%◌, ◌^◌, ◌<◌, ◌≤◌, List, map, replicate, length, get_or, set, sym, refl, ap, ◌∙◌, ap₂, zero-add, arith, length-set, get_or-set_other, get_or-set_same, mod-lt, ext_get_or}
use native.Mathlib.Decide.{ℕ_discrete}
use native.Mathlib.Nat.{zero-div, div-lt_iff_lt-mul}
use Rattle.std.proofs.Math.Nat.{div-add-mod}
use lib.Bits.{bit_and}
use Rattle.std.proofs.lemmas.List.{get_or-map, get_or-replicate, length-map, length-replicate, map-set}
use Rattle.std.proofs.lemmas.List.FromFn.{get_or-map-range_with_len}
use Rattle.cbeam.specs.Permutation.{bytes_of, byte_in, bytes_in}
use Rattle.cbeam.proofs.Bytes.{byte_part, byte_masked, byte_put, put_same, put_other}

pub byte_at : (n : ℕ) (s : List ℕ) (k : ℕ) → k < 32 → get_or (bytes_in n s) k 0 ≡ byte_part (get_or s (k / n) 0) (k % n)
unfolding bytes_in
byte_at n s k h = get_or-map-range_with_len (byte_in n s) 0 32 k k 0 h (zero-add k)

pub byte_rows : (s : List ℕ) (k : ℕ) → k < 32 → get_or (bytes_of s) k 0 ≡ byte_part (get_or s (k / 2) 0) (k % 2)
unfolding bytes_of bytes_in
byte_rows s k h = byte_at 2 s k h

length_bytes : (n : ℕ) (s : List ℕ) → length (bytes_in n s) ≡ 32
unfolding bytes_in
length_bytes n s = refl

-- a byte put into word k / n, as byte k % n of it
pub put_list : (n : ℕ) → 0 < n → (s : List ℕ) (k b : ℕ) → k < 32 → k / n < length s → b < 2 ^ 8
    → bytes_in n (set s (k / n) (byte_put (8 * n) (get_or s (k / n) 0) (k % n) b)) ≡ set (bytes_in n s) k b
unfolding bytes_in
put_list n pos s k b hk ha hb =
    ext_get_or 0 (bytes_in n t) (set (bytes_in n s) k b) (sym (length-set (bytes_in n s) k b))
    (λ i hi.
    byte_at n t i hi
    ∙ elim (ℕ_discrete i k) [
      | yes e ↦
          ap (λ j. byte_part (get_or t (j / n) 0) (j % n)) e
          ∙ ap (λ y. byte_part y (k % n)) changed
          ∙ put_same (8 * n) x (k % n) b (room k) hb
          ∙ sym (ap (λ j. get_or (set (bytes_in n s) k b) j 0) e
          ∙ get_or-set_same (bytes_in n s) k b 0 (omega (arith, length_bytes n s)))
      | no ne ↦ kept i ne ∙ sym (get_or-set_other (bytes_in n s) k i b 0 ne ∙ byte_at n s i hi)
    ])
  where
    x : ℕ
    x = get_or s (k / n) 0

    t : List ℕ
    t = set s (k / n) (byte_put (8 * n) x (k % n) b)

    changed : get_or t (k / n) 0 ≡ byte_put (8 * n) x (k % n) b
    changed = get_or-set_same s (k / n) (byte_put (8 * n) x (k % n) b) 0 ha

    room : (i : ℕ) → 8 * (i % n) + 8 ≤ 8 * n
    room i = omega (arith, mod-lt i pos)

    one : (i : ℕ) → i / n ≡ k / n → i % n ≡ k % n → i ≡ k
    one i e f = sym (div-add-mod i n) ∙ ap₂ (λ q r. n * q + r) e f ∙ div-add-mod k n

    kept : (i : ℕ) → (i ≡ k → ⊥) → byte_part (get_or t (i / n) 0) (i % n) ≡ byte_part (get_or s (i / n) 0) (i % n)
    kept i ne =
        elim (ℕ_discrete (i / n) (k / n)) [
          | yes e ↦
              ap (λ u. byte_part (get_or t u 0) (i % n)) e
              ∙ ap (λ y. byte_part y (i % n)) changed
              ∙ put_other (8 * n) x (k % n) b (i % n) (room i) hb (λ d. ne (one i e d))
              ∙ sym (ap (λ u. byte_part (get_or s u 0) (i % n)) e)
          | no d ↦
              ap (λ y. byte_part y (i % n)) (get_or-set_other s (k / n) (i / n) (byte_put (8 * n) x (k % n) b) 0 d)
        ]

-- m words of a type X, of n bytes each, by the number that each holds.
module _ {X : Type 0} (value : X → ℕ) (m n : ℕ) (whole : m * n ≡ 32)
    (bytes : List X → List ℕ) (order : (ws : List X) → bytes ws ≡ bytes_in n (map value ws)) where
  some : 0 < n
  some = elim (ℕ_discrete n 0) [ yes e ↦ absurd (omega (arith, ap (λ n. m * n) e)) | no ne ↦ omega arith ]

  within : (k : ℕ) → k < 32 → k / n < m
  within k h = (div-lt_iff_lt-mul some).1 (omega arith)

  -- the byte that a shift and a mask tell
  pub byte_told : (ws : List X) (k : ℕ) (e : X) → length ws ≡ m → k < 32
      → bit_and (value (get_or ws (k / n) e) / 2 ^ (8 * (k % n))) 255 ≡ get_or (bytes ws) k 0
  byte_told ws k e long h =
      let l : k / n < length ws = omega (arith, within k h) in
      byte_masked (value (get_or ws (k / n) e)) (k % n)
      ∙ sym (ap (λ s. get_or s k 0) (order ws) ∙ byte_at n (map value ws) k h
      ∙ ap (λ y. byte_part y (k % n)) (get_or-map value ws (k / n) e 0 l))

  pub byte_set : (ws : List X) (k b : ℕ) (y e : X) → length ws ≡ m → k < 32 → b < 2 ^ 8
      → value y ≡ byte_put (8 * n) (value (get_or ws (k / n) e)) (k % n) b
      → bytes (set ws (k / n) y) ≡ set (bytes ws) k b
  byte_set ws k b y e long h hb is =
      let l : k / n < length ws = omega (arith, within k h) in
      order (set ws (k / n) y)
      ∙ ap (bytes_in n) (map-set value ws (k / n) y ∙ ap (set (map value ws) (k / n))
      (is ∙ ap (λ x. byte_put (8 * n) x (k % n) b) (sym (get_or-map value ws (k / n) e 0 l))))
      ∙ put_list n some (map value ws) k b h (simp length-map l) hb
      ∙ ap (λ s. set s k b) (sym (order ws))

  pub byte_zero : (z : X) → value z ≡ 0 → bytes (replicate m z) ≡ replicate 32 0
  unfolding bytes_in
  byte_zero z is =
      order (replicate m z)
      ∙ ext_get_or 0 (bytes_in n q) (replicate 32 0) refl
      (λ k h.
      byte_at n q k h ∙ ap (λ x. byte_part x (k % n)) (word k h) ∙ ap (λ x. x % 2 ^ 8) (zero-div (2 ^ (8 * (k % n))))
      ∙ sym (get_or-replicate 32 k 0 0 h))
    where
      q : List ℕ
      q = map value (replicate m z)

      word : (k : ℕ) → k < 32 → get_or q (k / n) 0 ≡ 0
      word k h =
          let l : k / n < m = within k h in
          get_or-map value (replicate m z) (k / n) z 0 (simp length-replicate l)
          ∙ ap value (get_or-replicate m (k / n) z z l) ∙ is
