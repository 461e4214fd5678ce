-- An endpoint does what the model says, call by call, for every list of calls.
use Rattle.std.proofs.Common.{◌≡◌, ℕ, ◌-◌, Bool, true, false, List, [], ◌∷◌, ◌++◌, length, sym, refl, ap, ◌∙◌}
use Rattle.std.proofs.lemmas.Slice.Eq.{bytes_eq-Decides}
use Rattle.engine.specs.States.{Bytes, Mixes}
use Rattle.link.specs.declared.phase.Phase.TheVariants.{Live}
use Rattle.link.specs.Blocks.{zeros}
use Rattle.link.specs.Sessions.{cost, Telegram, session_begun, after_telegrams, session_state, sealing}
use Rattle.link.specs.Sessions.{after_telegram, plaintext, after_tag, genuine}
use Rattle.link.specs.Calls.{Call, Start, Seal, Open, Left, Close, CallBytes}
use Rattle.link.specs.Questions.{Verdict, passed, stopped}
use Rattle.link.specs.Steps.{View, Outcome, opening, done, settled, step}
use Rattle.link.proofs.Sealings.{length-plain, sealing_plain, tag_sealing, in_plain, session_more}
use Rattle.link.proofs.SessionStates.{SessionBytes, telegrams_more, plain_bytes}
use Rattle.rehearsal.proofs.Verdicts.{true_is_false}
use Rattle.rehearsal.specs.Turns.{AllBytes, replies, view_after}
use Rattle.rehearsal.specs.Model.{Model, idle, live, asked, telegram, shown}
use Rattle.rehearsal.specs.Model.{Step, refuse, start, seal, accept, reject, tell, close, Runs, over, next}

-- the session's key, nonce and telegrams are bytes
abbrev pub ModelBytes : Model → Type 0
ModelBytes (idle left) = Unit {0}
ModelBytes (live left key nonce ts) = SessionBytes key nonce ts

-- the outcome is one that the model has
pub record InModel (mix : List ℕ → List ℕ) (m : Model) (c : Call) (o : Outcome) : Type 0 where
  pub model : Model
  pub rest : List ℕ
  pub does : Step mix m c o.reply.answer o.reply.output model
  pub stands : o.view ≡ shown mix model rest
  pub bytes : ModelBytes model

module _ (mix : List ℕ → List ℕ) (M : Mixes mix) where
  begins : (key nonce : List ℕ) → session_begun mix key nonce ≡ session_state mix key nonce []
  unfolding session_state after_telegrams
  begins key nonce = refl

  -- an endpoint that is live with such bytes and such a number of mixings left
  abbrev live_view : ℕ → List ℕ → View
  live_view left bs = record { phase = Live; bytes = bs; left = left }

  stands_live : (left : ℕ) {bs bs' : List ℕ} → bs ≡ bs' → live_view left bs ≡ live_view left bs'
  stands_live left e = ap (live_view left) e

  module _ (left : ℕ) (key nonce : List ℕ) (ts : List Telegram) (a c out bs : List ℕ) where
    opens :
        asked (live left key nonce ts) (Open a c out) ≡ passed → SessionBytes key nonce ts → Bytes a × Bytes c →
        (t : Bool) → genuine mix (session_state mix key nonce ts) a c ≡ t →
        InModel mix (live left key nonce ts) (Open a c out)
        (opening mix (shown mix (live left key nonce ts) bs) a c out t)
    unfolding sealing after_telegram
    opens e mb cb true h =
        let v = session_state mix key nonce ts in
        let p = plaintext mix v a c in
        let pb : Bytes p = plain_bytes mix M key nonce ts a c mb cb.0 cb.1 in
        let after = λ (n : ℕ). live (left - cost (length a) n) key nonce (ts ++ telegram a p ∷ []) in
        record {
          model = after (length c - 8);
          rest = bs;
          does = rw (← length-plain mix v a c) (accept p e (pb, sealing_plain mix v a c ((bytes_eq-Decides _ _).0 h)));
          stands = stands_live (left - cost (length a) (length c - 8))
              (ap (after_tag mix) (sym (in_plain mix v a c)) ∙ sym (session_more mix key nonce ts (telegram a p)));
          bytes = (mb.0, mb.1, telegrams_more ts (telegram a p) mb.2 cb.0 pb);
        }
    opens e mb cb false h = record {
      model = live (left - cost (length a) (length c - 8)) key nonce ts;
      rest = bs;
      does = reject e (λ p hb. true_is_false _ ((bytes_eq-Decides _ _).1 (tag_sealing mix _ a p c hb.1)) h);
      stands = refl;
      bytes = mb;
    }

  does_done :
      (m : Model) (bs : List ℕ) (c : Call) → asked m c ≡ passed → ModelBytes m → CallBytes c →
      InModel mix m c (done mix (shown mix m bs) c)
  unfolding sealing
  does_done (idle left) bs (Start key nonce out) e mb cb = record {
    model = live (left - 3) key nonce [];
    rest = bs;
    does = start e;
    stands = stands_live (left - 3) (begins key nonce);
    bytes = (cb.0, cb.1, tt);
  }
  does_done (idle left) bs (Seal a p out) e mb cb = cc
  does_done (idle left) bs (Open a c out) e mb cb = cc
  does_done (idle left) bs (Left out) e mb cb =
      record { model = idle left; rest = bs; does = tell; stands = refl; bytes = mb }
  does_done (idle left) bs (Close out) e mb cb = cc
  does_done (live left key nonce ts) bs (Start k n out) e mb cb = cc
  does_done (live left key nonce ts) bs (Seal a p out) e mb cb = record {
    model = live (left - cost (length a) (length p)) key nonce (ts ++ telegram a p ∷ []);
    rest = bs;
    does = seal e;
    stands = stands_live (left - cost (length a) (length p)) (sym (session_more mix key nonce ts (telegram a p)));
    bytes = (mb.0, mb.1, telegrams_more ts (telegram a p) mb.2 cb.0 cb.1);
  }
  does_done (live left key nonce ts) bs (Open a c out) e mb cb = opens left key nonce ts a c out bs e mb cb _ refl
  does_done (live left key nonce ts) bs (Left out) e mb cb =
      record { model = live left key nonce ts; rest = bs; does = tell; stands = refl; bytes = mb }
  does_done (live left key nonce ts) bs (Close out) e mb cb =
      record { model = idle left; rest = zeros 32; does = close; stands = refl; bytes = tt }

  does_settled :
      (m : Model) (bs : List ℕ) (c : Call) (w : Verdict) → asked m c ≡ w → ModelBytes m → CallBytes c →
      InModel mix m c (settled mix (shown mix m bs) c w)
  does_settled m bs c passed e mb cb = does_done m bs c e mb cb
  does_settled m bs c (stopped n vs) e mb cb =
      record { model = m; rest = bs; does = refuse e; stands = refl; bytes = mb }

  does_step :
      (m : Model) (bs : List ℕ) (c : Call) → ModelBytes m → CallBytes c →
      InModel mix m c (step mix (shown mix m bs) c)
  does_step (idle left) bs c mb cb = does_settled (idle left) bs c _ refl mb cb
  does_step (live left key nonce ts) bs c mb cb = does_settled (live left key nonce ts) bs c _ refl mb cb

  pub record AllInModel (m : Model) (e : View) (cs : List Call) : Type 0 where
    pub model : Model
    pub rest : List ℕ
    pub runs : Runs mix m cs (replies mix e cs) model
    pub stands : view_after mix e cs ≡ shown mix model rest

  pub does_all :
      (cs : List Call) (m : Model) (bs : List ℕ) → ModelBytes m → AllBytes cs → AllInModel m (shown mix m bs) cs
  unfolding replies view_after
  does_all [] m bs mb ab = record { model = m; rest = bs; runs = over; stands = refl }
  does_all (c ∷ cs) m bs mb ab =
      let one = does_step m bs c mb ab.0 in
      let e = (step mix (shown mix m bs) c).view in
      let more : AllInModel one.model e cs = rw one.stands (does_all cs one.model one.rest one.bytes ab.1) in
      record { model = more.model; rest = more.rest; runs = next one.does more.runs; stands = more.stands }
