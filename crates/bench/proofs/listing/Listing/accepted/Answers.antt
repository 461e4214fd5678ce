use Rattle.std.proofs.Common.{◌≡◌, ℕ, ◌≤◌, ◌⊎◌, List, ◌++◌, length, take, codes, ap, inl, inr, arith}
use Rattle.link.specs.declared.call.Answer.{Answer}
use Rattle.link.specs.declared.call.Answer.TheVariants.{Sealed, Opened}
use Rattle.link.specs.Calls.{accepted, bytes_told}
use Rattle.bench.specs.Texts.{hex, answer_text}
use Rattle.bench.proofs.Additions.{adds_then}
use Rattle.bench.proofs.Hexadecimal.{length-hex-take}
use Rattle.bench.proofs.listing.Listing.accepted.Goals as goal

-- an answer that tells n bytes
tells :
    (a : Answer) (n : ℕ) (out : List ℕ) → (a ≡ Sealed n) ⊎ (a ≡ Opened n) →
    (answer_text (accepted a) out ≡ codes "ok " ++ hex (take n out)) × (bytes_told (accepted a) ≡ n)
tells a n out (inl e) = (ap (λ (a : Answer). answer_text (accepted a) out) e, ap (λ (a : Answer). bytes_told (accepted a)) e)
tells a n out (inr e) = (ap (λ (a : Answer). answer_text (accepted a) out) e, ap (λ (a : Answer). bytes_told (accepted a)) e)

pub returns-in-Sealed : goal.returns-in-Sealed
returns-in-Sealed c =
    let n = c.in-Sealed.n in
    let out = c.args.output.now in
    let is = tells c.args.answer n out c.in-Sealed.is in
    let within : n ≤ length out = omega (arith, c.requires.within, is.1) in
    let all = adds_then (codes "ok ") c.word-in-Sealed.ensures (hex (take n out)) c.hex.ensures in
    record {
      text = rw is.0 all;
      short = omega (arith, all.used, is.1, length-hex-take out n within);
    }
