-- Laws of what is written into a listing.
use Rattle.std.proofs.Common.{◌≡◌, ℕ, ◌+◌, ◌≤◌, List, [], ◌++◌, length, take, drop, sym, refl, ap, ◌∙◌, add-zero, arith}
use borrow.Rule.Slice.PartMut.{put_mid}
use Rattle.std.proofs.lemmas.List.{append_assoc, length-append, length-take-le, take-append-drop, take_at, drop_at, drop-drop}
use Rattle.bench.specs.declared.listing.Listing.{Listing}
use Rattle.bench.specs.Writing.{written, Adds, text_of}

-- ---- a text in a list

module _ (at : ℕ) (t old : List ℕ) (fits : at + length t ≤ length old) where
  length_front : length (take at old ++ t) ≡ at + length t
  length_front =
      length-append (take at old) t ∙ ap (λ k. k + length t) (length-take-le at old (omega arith))

  regroup : written at t old ≡ (take at old ++ t) ++ drop (at + length t) old
  unfolding written
  regroup = sym (append_assoc (take at old) t (drop (at + length t) old))

  -- what stands up to its end, and behind it
  front_written : take (at + length t) (written at t old) ≡ take at old ++ t
  front_written =
      ap (take (at + length t)) regroup
      ∙ take_at (take at old ++ t) (drop (at + length t) old) (at + length t) length_front

  behind_written : drop (at + length t) (written at t old) ≡ drop (at + length t) old
  behind_written =
      ap (drop (at + length t)) regroup
      ∙ drop_at (take at old ++ t) (drop (at + length t) old) (at + length t) length_front

  -- one text behind another
  written_then : (u : List ℕ) → written (at + length t) u (written at t old) ≡ written at (t ++ u) old
  unfolding written
  written_then u =
      let w = written at t old in
      let far : drop (at + length t + length u) w ≡ drop (at + length (t ++ u)) old =
      sym (drop-drop (length u) (at + length t) w) ∙ ap (drop (length u)) behind_written
      ∙ drop-drop (length u) (at + length t) old ∙ ap (λ k. drop k old) (omega (arith, length-append t u)) in
      ap (λ f. f ++ (u ++ drop (at + length t + length u) w)) front_written
      ∙ ap (λ f. (take at old ++ t) ++ (u ++ f)) far
      ∙ simp append_assoc

-- a text that is copied over the bytes from a place on
pub written_over : (at n : ℕ) (t old : List ℕ) → n ≡ length t → put_mid at n old t ≡ written at t old
unfolding written
written_over at n t old h = rw (h, drop-drop) refl

-- ---- a text in a listing

pub adds_none : (l : Listing) → Adds l [] l
unfolding written
adds_none l = record {
  used = sym (add-zero l.used);
  bytes = sym (rw add-zero (take-append-drop l.used l.bytes.now));
  long = refl;
  same = refl;
}

module _ {l m : Listing} (t : List ℕ) (a : Adds l t m) where
  -- that it lies in the listing is the listing's invariant
  fits : l.used + length t ≤ length l.bytes.now
  fits = omega (arith, a.used, a.long, m.within)

  pub adds_then : {n : Listing} (u : List ℕ) → Adds m u n → Adds l (t ++ u) n
  adds_then u b = record {
    used = omega (arith, a.used, b.used, length-append t u);
    bytes =
        b.bytes ∙ ap (λ k. written k u m.bytes.now) a.used ∙ ap (written (l.used + length t) u) a.bytes
        ∙ written_then l.used t l.bytes.now fits u;
    long = b.long ∙ a.long;
    same = b.same ∙ a.same;
  }

  -- the text so far grows by what is added, and the bytes behind it stay
  pub text_added : text_of m ≡ text_of l ++ t
  text_added =
      ap (λ k. take k m.bytes.now) a.used ∙ ap (take (l.used + length t)) a.bytes
      ∙ front_written l.used t l.bytes.now fits

  pub behind_added : drop m.used m.bytes.now ≡ drop m.used l.bytes.now
  behind_added =
      ap (λ k. drop k m.bytes.now) a.used ∙ ap (drop (l.used + length t)) a.bytes
      ∙ behind_written l.used t l.bytes.now fits ∙ ap (λ k. drop k l.bytes.now) (sym a.used)

pub length-text : (l : Listing) → length (text_of l) ≡ l.used
length-text l = length-take-le l.used l.bytes.now l.within
