-- Where the commands of a script begin.
use Rattle.std.proofs.Common.{◌≡◌, ℕ, zero, suc, ◌+◌, ◌-◌, ◌<◌, ◌≤◌, eqb, List, [], ◌∷◌, length, get_or, drop, sym, refl, ap, ◌∙◌, add-zero, arith}
use Rattle.std.proofs.lemmas.Bool.{cond_both}
use Rattle.bench.specs.Commands.{size}
use Rattle.bench.specs.Runs.{Entry, entries}

-- a command's operands are skipped
entries_skip : (k place : ℕ) (xs : List ℕ) → k ≤ length xs → entries k place xs ≡ entries 0 (place + k) (drop k xs)
unfolding entries
entries_skip zero place xs h = ap (λ p. entries 0 p xs) (sym (add-zero place))
entries_skip (suc k) place [] h = absurd (omega arith)
entries_skip (suc k) place (x ∷ xs) h =
    entries_skip k (place + 1) xs (omega arith) ∙ ap (λ p. entries 0 p (drop k xs)) (omega arith)

pub size_some : (op : ℕ) → 1 ≤ size op
size_some op =
    cond_both (eqb op 1) 5 _ (λ n. 1 ≤ n) (λ e. omega arith)
    (λ e. cond_both (eqb op 2) 9 _ (λ n. 1 ≤ n) (λ e. omega arith)
    (λ e. cond_both (eqb op 3) 9 1 (λ n. 1 ≤ n) (λ e. omega arith) (λ e. omega arith)))

abbrev pub entry : ℕ → List ℕ → Entry
entry place xs = record { place = place; rest = xs }

-- of a script that begins with a whole command
pub entries_go :
    (place : ℕ) (xs : List ℕ) → size (get_or xs 0 0) ≤ length xs →
    entries 0 place xs ≡ entry place xs ∷ entries 0 (place + size (get_or xs 0 0)) (drop (size (get_or xs 0 0)) xs)
unfolding entries
entries_go place [] h = absurd (omega (arith, size_some 0, h))
entries_go place (op ∷ xs) h =
    let some = size_some op in
    ap (λ (es : List Entry). entry place (op ∷ xs) ∷ es)
    (entries_skip (size op - 1) (place + 1) xs (omega (arith, some, h))
    ∙ ap (λ p. entries 0 p (drop (size op - 1) xs)) (omega (arith, some))
    ∙ ap (entries 0 (place + size op)) (drop_op (size op) some))
  where
    drop_op : (n : ℕ) → 1 ≤ n → drop (n - 1) xs ≡ drop n (op ∷ xs)
    drop_op zero h = absurd (omega arith)
    drop_op (suc n) h = ap (λ k. drop k xs) (omega arith)

-- of a script that is not empty
pub entries_first :
    (place : ℕ) (xs : List ℕ) → 0 < length xs → (es : List Entry) × (entries 0 place xs ≡ entry place xs ∷ es)
unfolding entries
entries_first place [] h = absurd (omega arith)
entries_first place (op ∷ xs) h = (entries (size op - 1) (place + 1) xs, refl)

pub entries_none : (place : ℕ) → entries 0 place [] ≡ []
unfolding entries
entries_none place = refl
