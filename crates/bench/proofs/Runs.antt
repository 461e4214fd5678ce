-- A whole run: refused before it begins, or listed.
use Rattle.std.proofs.Common.{◌≡◌, ℕ, ◌<◌, ◌≤◌, Bool, leb, List, [], ◌∷◌, ◌++◌, length, take, drop, sym, refl, ap, ◌∙◌}
use Rattle.std.proofs.lemmas.Bool.{le-leb, lt-leb}
use Rattle.std.proofs.lemmas.List.{take-append-drop}
use Rattle.link.specs.Questions.{ask, Verdict, passed, stopped, verdict}
use Rattle.link.specs.Steps.{View}
use Rattle.bench.specs.Refusals.{listed, refused}
use Rattle.bench.specs.Runs.{Stage, run_questions, entries, after_entries, Ran, listing_with, ran_by, ran, RunDid}
use Rattle.bench.specs.Steps.{State, stage, Lines}
use Rattle.bench.specs.Writing.{text_of}
use Rattle.bench.proofs.Additions.{length-text}

module _ (mix : List ℕ → List ℕ) (e : View) (script pool work listing : List ℕ) where
  -- by the answers to the two questions
  asked :
      {s l : Bool} → leb (length script) 65536 ≡ s → leb 80 (length listing) ≡ l →
      verdict (run_questions script listing) ≡ verdict (ask 11 s ∷ ask 12 l ∷ [])
  asked {s} hs hl =
      ap (λ b. verdict (ask 11 b ∷ ask 12 (leb 80 (length listing)) ∷ [])) hs
      ∙ ap (λ b. verdict (ask 11 s ∷ ask 12 b ∷ [])) hl

  by_verdict :
      (v : Verdict) → verdict (run_questions script listing) ≡ v →
      ran mix e script pool work listing ≡ ran_by v mix e script pool work listing
  unfolding ran
  by_verdict v h = ap (λ w. ran_by w mix e script pool work listing) h

  refused_by :
      (n : ℕ) → verdict (run_questions script listing) ≡ stopped n [] →
      RunDid mix e script pool work listing (refused n []) e work listing
  refused_by n h =
      let is = sym (by_verdict (stopped n []) h) in
      record {
        tells = ap (λ (r : Ran). r.told) is;
        shows = ap (λ (r : Ran). r.view) is;
        works = ap (λ (r : Ran). r.work) is;
        lists = ap (λ (r : Ran). r.listing) is;
      }

  pub script_too_long :
      65536 < length script → RunDid mix e script pool work listing (refused 11 []) e work listing
  script_too_long h =
      refused_by 11 (asked (lt-leb (length script) 65536 h) refl)

  pub listing_too_short :
      length script ≤ 65536 → length listing < 80 →
      RunDid mix e script pool work listing (refused 12 []) e work listing
  listing_too_short s h =
      refused_by 12 (asked (le-leb (length script) 65536 s) (lt-leb 80 (length listing) h))

  -- all of them are carried out from a state with an empty listing
  pub run_listed :
      {s s' : State} {n : ℕ} {e' : View} {work' listing' : List ℕ} →
      length script ≤ 65536 → 80 ≤ length listing →
      s.view ≡ e → s.work ≡ work → s.listing.bytes.now ≡ listing → s.listing.used ≡ 0 →
      Lines mix pool script s s' →
      n ≡ s'.listing.used → e' ≡ s'.view → work' ≡ s'.work → listing' ≡ s'.listing.bytes.now →
      RunDid mix e script pool work listing (listed n) e' work' listing'
  run_listed {s} {s'} short long view works all none lines told shown left back =
      let l = s'.listing in
      let pass = asked (le-leb (length script) 65536 short) (le-leb 80 (length listing) long) in
      let first : Stage = record { view = e; work = work; text = [] } in
      let begins : stage s ≡ first =
      λ i. record { view = view i; work = works i; text = ap (λ k. take k s.listing.bytes.now) none i } in
      let made : stage s' ≡ after_entries mix pool (length listing) (entries 0 0 script) first =
      lines.made ∙ ap (λ xs. after_entries mix pool (length xs) (entries 0 0 script) (stage s)) all
      ∙ ap (after_entries mix pool (length listing) (entries 0 0 script)) begins in
      let is = ap (listing_with listing) made ∙ sym (by_verdict passed pass) in
      let end = sym (length-text l) in
      record {
        tells = ap listed (told ∙ end) ∙ ap (λ (r : Ran). r.told) is;
        shows = shown ∙ ap (λ (r : Ran). r.view) is;
        works = left ∙ ap (λ (r : Ran). r.work) is;
        lists =
            back ∙ sym (take-append-drop l.used l.bytes.now)
            ∙ ap (λ xs. text_of l ++ xs) (lines.kept ∙ ap (drop l.used) all ∙ ap (λ k. drop k listing) end)
            ∙ ap (λ (r : Ran). r.listing) is;
      }
