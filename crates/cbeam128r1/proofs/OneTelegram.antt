-- A session of one telegram, with mixings enough, gives the reply that the one call promises.
use Rattle.std.proofs.Common.{◌≡◌, ℕ, ◌+◌, ◌-◌, ◌≤◌, Bool, true, false, cond, eqb, leb, List, [], ◌++◌, length, drop, Some, None, Option, sym, refl, ap, subst, true≢false, arith}
use Rattle.std.proofs.lemmas.Bool.Decides.{nat_tests as ways}
use Rattle.cbeam.specs.Permutation.{pi}
use Rattle.link.specs.declared.phase.Phase.TheVariants.{Live}
use Rattle.link.specs.Sessions.{cost, session_begun, sealing_at, plaintext, genuine}
use Rattle.link.specs.Calls.{Seal, Open, sealed}
use Rattle.link.specs.Calls.{Reply}
use Rattle.link.specs.Questions.{Verdict, passed, stopped, verdict, questions}
use Rattle.link.specs.Steps.{reply, opening, settled}
use Rattle.cbeam128r1.specs.OneShot.{by_verdict, by_decryption, encrypt_reply, decrypt_reply}
use Rattle.cbeam128r1.specs.OneShot.{begun_view, single_reply}
use Rattle.cbeam128r1.proofs.Agreement.{encryption_at, decryption_at}

-- the mixings suffice
cost_bound : (a n given : ℕ) → 16388 ≤ given → a ≤ 65535 → n ≤ 65535 → cost a n ≤ given - 3
cost_bound a n given h k l = grind arith

-- the questions of a start for which the mixings suffice, and then those of a call
asked :
    (k n l : Bool) (nine v w : Verdict) (out : List ℕ) (r : Reply) → l ≡ true → v ≡ w →
    by_verdict (cond k (cond n (cond l passed nine) (stopped 4 [])) (stopped 3 [])) out (by_verdict v out r)
    ≡ by_verdict (cond k (cond n w (stopped 4 [])) (stopped 3 [])) out r
asked true true true nine v w out r h e = ap (λ v. by_verdict v out r) e
asked true true false nine v w out r h e = absurd (true≢false (sym h))
asked true false l nine v w out r h e = refl
asked false n l nine v w out r h e = refl

module _ (given : ℕ) (enough : 16388 ≤ given) (key nonce a out : List ℕ) where
  starts : leb 3 given ≡ true
  starts = grind (arith, ways)

  abbrev live : List ℕ
  live = session_begun pi key nonce

  abbrev seal_verdict : List ℕ → Verdict
  seal_verdict p =
      cond (leb (length a) 65535)
      (cond (leb (length p) 65535) (cond (leb (length p + 8) (length out)) passed (stopped 8 [])) (stopped 6 []))
      (stopped 5 [])

  seal_passes : (p : List ℕ) → verdict (questions Live (given - 3) (Seal a p out)) ≡ seal_verdict p
  seal_passes p =
      let bound = cost_bound (length a) (length p) given enough in grind (arith, ways, bound)

  abbrev open_verdict : List ℕ → Verdict
  open_verdict c =
      cond (leb (length a) 65535)
      (cond (leb (length c) 65543)
      (cond (leb 8 (length c)) (cond (leb (length c - 8) (length out)) passed (stopped 8 [])) (stopped 7 []))
      (stopped 6 []))
      (stopped 5 [])

  open_passes : (c : List ℕ) → verdict (questions Live (given - 3) (Open a c out)) ≡ open_verdict c
  open_passes c =
      let bound = cost_bound (length a) (length c - 8) given enough in grind (arith, ways, bound)

  sealed_by :
      (p : List ℕ) (v : Verdict) →
      (settled pi (begun_view pi given key nonce) (Seal a p out) v).reply
      ≡ by_verdict v out (reply (sealed (length p + 8)) (sealing_at pi live a p ++ drop (length p + 8) out))
  sealed_by p passed = refl
  sealed_by p (stopped number values) = refl

  abbrev told_of : List ℕ → Bool → Option (List ℕ)
  told_of c right = cond right (Some (plaintext pi live a c)) None

  opening_by :
      (c : List ℕ) (right : Bool) →
      (opening pi (begun_view pi given key nonce) a c out right).reply ≡ by_decryption (length c - 8) out (told_of c right)
  opening_by c true = refl
  opening_by c false = refl

  opened_by :
      (c : List ℕ) (v : Verdict) →
      (settled pi (begun_view pi given key nonce) (Open a c out) v).reply
      ≡ by_verdict v out (by_decryption (length c - 8) out (told_of c (genuine pi live a c)))
  opened_by c passed = opening_by c (genuine pi live a c)
  opened_by c (stopped number values) = refl

  sealed_pi : (p : List ℕ) → single_reply pi given key nonce (Seal a p out) ≡ encrypt_reply key nonce a p out
  sealed_pi p =
      let v = verdict (questions Live (given - 3) (Seal a p out)) in
      rw (sealed_by p v, encryption_at key nonce a p)
      (asked (eqb (length key) 16) (eqb (length nonce) 8) (leb 3 given) _ v (seal_verdict p) out _ starts (seal_passes p))

  opened_pi : (c : List ℕ) → single_reply pi given key nonce (Open a c out) ≡ decrypt_reply key nonce a c out
  opened_pi c =
      let v = verdict (questions Live (given - 3) (Open a c out)) in
      rw (opened_by c v, decryption_at key nonce a c)
      (asked (eqb (length key) 16) (eqb (length nonce) 8) (leb 3 given) _ v (open_verdict c) out _ starts (open_passes c))

  -- over any engine that permutes, and with any number of mixings that suffices
  module _ (mix : List ℕ → List ℕ) (same : mix ≡ pi) where
    pub sealed_within : (p : List ℕ) → single_reply mix given key nonce (Seal a p out) ≡ encrypt_reply key nonce a p out
    sealed_within p =
        subst (λ (m : List ℕ → List ℕ). single_reply m given key nonce (Seal a p out) ≡ encrypt_reply key nonce a p out)
        (sym same) (sealed_pi p)

    pub opened_within : (c : List ℕ) → single_reply mix given key nonce (Open a c out) ≡ decrypt_reply key nonce a c out
    opened_within c =
        subst (λ (m : List ℕ → List ℕ). single_reply m given key nonce (Open a c out) ≡ decrypt_reply key nonce a c out)
        (sym same) (opened_pi c)

-- with just those that suffice for every telegram
module _ (key nonce a out : List ℕ) where
  pub sealed_single : (p : List ℕ) → single_reply pi 16388 key nonce (Seal a p out) ≡ encrypt_reply key nonce a p out
  sealed_single p = sealed_within 16388 (omega arith) key nonce a out pi refl p

  pub opened_single : (c : List ℕ) → single_reply pi 16388 key nonce (Open a c out) ≡ decrypt_reply key nonce a c out
  opened_single c = opened_within 16388 (omega arith) key nonce a out pi refl c
