-- A run under way, with `rest` of its script ahead.
use Rattle.std.proofs.Common.{◌≡◌, ℕ, ◌+◌, ◌-◌, ◌<◌, ◌≤◌, List, [], length, get_or, drop, sym, ap, ◌∙◌, subst, arith}
use Rattle.std.proofs.lemmas.List.{length-drop, nil_from_length, drop-drop}
use Rattle.link.specs.Questions.{stopped}
use Rattle.bench.specs.declared.listing.Listing.{Listing}
use Rattle.bench.specs.declared.stop.Stop.{Stop}
use Rattle.bench.specs.Commands.{size}
use Rattle.bench.specs.Refusals.{stop_number}
use Rattle.bench.specs.Runs.{verdict_at, Entry, entries, with_line, after_entries}
use Rattle.bench.specs.Steps.{State, stage, Went, Stayed, Lines}
use Rattle.bench.specs.Texts.{line, ended, stopped_at, ending_line}
use Rattle.bench.specs.Writing.{Adds, Room, free}
use Rattle.bench.proofs.Additions.{text_added, behind_added, length-text}
use Rattle.bench.proofs.Entries.{entry, entries_go, entries_first, entries_none}
use Rattle.bench.proofs.Stages.{after_passed, after_stopped, after_none}

-- what is ahead gives what the whole run gives
pub record Going (mix : List ℕ → List ℕ) (pool script : List ℕ) (s s' : State) (rest : List ℕ) : Type 0 where
  pub ahead :
      after_entries mix pool (length s.listing.bytes.now) (entries 0 (length script - length rest) rest) (stage s')
      ≡ after_entries mix pool (length s.listing.bytes.now) (entries 0 0 script) (stage s)
  pub within : length rest ≤ length script
  pub spare : Room s'.listing 30
  pub long : length s'.listing.bytes.now ≡ length s.listing.bytes.now
  pub same : s'.listing.bytes.ghost_name ≡ s.listing.bytes.ghost_name
  pub kept : drop s'.listing.used s'.listing.bytes.now ≡ drop s'.listing.used s.listing.bytes.now

drop_beyond : (a b : ℕ) (xs ys : List ℕ) → a ≤ b → drop a xs ≡ drop a ys → drop b xs ≡ drop b ys
drop_beyond a b xs ys h same =
    let e : a + (b - a) ≡ b = omega arith in
    ap (λ k. drop k xs) (sym e) ∙ sym (drop-drop (b - a) a xs) ∙ ap (drop (b - a)) same ∙ drop-drop (b - a) a ys
    ∙ ap (λ k. drop k ys) e

line_added :
    {m : Listing} (s : State) (t : List ℕ) → Adds s.listing (line t) m →
    stage (record { view = s.view; work = s.work; listing = m }) ≡ with_line (stage s) t
line_added s t a = λ i. record { view = s.view; work = s.work; text = text_added (line t) a i }

module _ {mix : List ℕ → List ℕ} {pool script rest : List ℕ} {s s' : State} (g : Going mix pool script s s' rest) where
  -- what is free behind the text so far
  free_left : length s.listing.bytes.now - length (stage s').text ≡ free s'.listing
  free_left = omega (arith, length-text s'.listing, g.long)

  kept_by :
      {m : Listing} (t : List ℕ) → Adds s'.listing t m → drop m.used m.bytes.now ≡ drop m.used s.listing.bytes.now
  kept_by {m} t a =
      behind_added t a
      ∙ drop_beyond s'.listing.used m.used s'.listing.bytes.now s.listing.bytes.now (omega (arith, a.used)) g.kept

  pub going_more : {s'' : State} {more : List ℕ} → Went mix pool rest s' s'' more → Going mix pool script s s'' more
  going_more {s''} {more} w =
      let long = length s.listing.bytes.now in
      let n = size (get_or rest 0 0) in
      let place = length script - length rest in
      let short : length more ≡ length rest - n = ap length w.behind ∙ length-drop n rest in
      let on : length script - length more ≡ place + n = omega (arith, short, g.within, w.whole) in
      let es = entries 0 (place + n) (drop n rest) in
      let passes = ap (λ k. verdict_at (length pool) k rest) free_left ∙ w.passes in
      record {
        ahead =
            ap (λ p. after_entries mix pool long (entries 0 p more) (stage s'')) on
            ∙ ap (λ xs. after_entries mix pool long (entries 0 (place + n) xs) (stage s'')) w.behind
            ∙ ap (after_entries mix pool long es) w.carried.made
            ∙ sym (after_passed mix pool long (entry place rest) es (stage s') passes)
            ∙ ap (λ (q : List Entry). after_entries mix pool long q (stage s')) (sym (entries_go place rest w.whole))
            ∙ g.ahead;
        within = omega (arith, short, g.within);
        spare = w.carried.spare;
        long = w.carried.adds.long ∙ g.long;
        same = w.carried.adds.same ∙ g.same;
        kept = kept_by w.carried.text w.carried.adds;
      }

  -- where a question was answered no, nothing was altered
  pub going_stayed :
      {s'' : State} {stop : Stop} → Stayed pool rest s' s'' stop →
      Going mix pool script s s'' rest × (verdict_at (length pool) (free s''.listing) rest ≡ stopped (stop_number stop) [])
  going_stayed {s''} {stop} h = (
    subst (λ x. Going mix pool script s x rest) (sym h.same) g,
    ap (λ (x : State). verdict_at (length pool) (free x.listing) rest) h.same ∙ h.stops,
  )

  -- the last line is added to the listing, and nothing else altered
  last_line :
      {m : Listing} (t : List ℕ) → Adds s'.listing (line t) m →
      after_entries mix pool (length s.listing.bytes.now) (entries 0 (length script - length rest) rest) (stage s')
      ≡ with_line (stage s') t →
      Lines mix pool script s (record { view = s'.view; work = s'.work; listing = m })
  last_line {m} t a h = record {
    made = line_added s' t a ∙ sym h ∙ g.ahead;
    long = a.long ∙ g.long;
    same = a.same ∙ g.same;
    kept = kept_by (line t) a;
  }

  pub run_ended :
      {m : Listing} → length rest ≡ 0 → Adds s'.listing (line (ending_line ended)) m →
      Lines mix pool script s (record { view = s'.view; work = s'.work; listing = m })
  run_ended none a =
      let long = length s.listing.bytes.now in
      let place = length script - length rest in
      last_line (ending_line ended) a
      (ap (λ xs. after_entries mix pool long (entries 0 place xs) (stage s')) (nil_from_length rest none)
      ∙ ap (λ (q : List Entry). after_entries mix pool long q (stage s')) (entries_none place)
      ∙ after_none mix pool long (stage s'))

  pub run_stopped :
      {m : Listing} (n : ℕ) → 0 < length rest → verdict_at (length pool) (free s'.listing) rest ≡ stopped n [] →
      Adds s'.listing (line (ending_line (stopped_at n (length script - length rest)))) m →
      Lines mix pool script s (record { view = s'.view; work = s'.work; listing = m })
  run_stopped n some stops a =
      let long = length s.listing.bytes.now in
      let place = length script - length rest in
      let first = entries_first place rest some in
      last_line (ending_line (stopped_at n place)) a
      (ap (λ (q : List Entry). after_entries mix pool long q (stage s')) first.1
      ∙ after_stopped mix pool long (entry place rest) first.0 (stage s') n []
      (ap (λ k. verdict_at (length pool) k rest) free_left ∙ stops))
