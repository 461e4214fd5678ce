-- Openings are exact.
use Rattle.std.proofs.Common.{◌≡◌, ℕ, List, refl}
use Rattle.link.specs.Sessions.{Telegram}
use Rattle.link.specs.Calls.{Call, Open, Answer, Reply}
use Rattle.link.specs.Questions.{passed}
use Rattle.link.specs.Steps.{reply}
use Rattle.rehearsal.specs.Model.{Model, idle, live, asked, Step, refuse, accept, reject, Runs}
use Rattle.rehearsal.specs.Laws.{OpensRight, Exact}
use Rattle.rehearsal.proofs.Single.{one_message}
use Rattle.rehearsal.proofs.Points.{at_call, stands_at}

module _ (mix : List ℕ → List ℕ) where
  opens_right :
      {left : ℕ} {key nonce : List ℕ} {ts : List Telegram} {a c out : List ℕ} {w : Answer} {o : List ℕ} {m : Model} →
      Step mix (live left key nonce ts) (Open a c out) w o m → asked (live left key nonce ts) (Open a c out) ≡ passed →
      OpensRight mix key nonce ts a c out (reply w o)
  opens_right (refuse e) y = cc
  opens_right {key = key} {nonce = nonce} {ts = ts} {a = a} {c = c} (accept p e h) y = record {
    where_none = λ never. absurd (never p h);
    none_where = λ r. cc;
    otherwise = λ _. (p, h, refl, λ q other k. other (one_message mix key nonce ts a c q p k h));
  }
  opens_right (reject e never) y =
      record { where_none = λ _. refl; none_where = λ _. never; otherwise = λ not. absurd (not refl) }

  pub exact :
      {given : ℕ} {cs : List Call} {rs : List Reply} {m : Model} → Runs mix (idle given) cs rs m → Exact mix given cs rs
  exact {given} runs before told a c out r made key nonce ts same let_through =
      let s = at_call mix runs made in
      opens_right (rw (stands_at mix s.runs same) at s.does) let_through
