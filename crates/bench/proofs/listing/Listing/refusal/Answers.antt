use Rattle.std.proofs.Common.{◌≡◌, ◌⊎◌, [], ◌++◌, codes, decimal, sym, refl, ap, ◌∙◌, inl, inr, ⊎_elim}
use Rattle.std.proofs.lemmas.List.{append-nil}
use Rattle.engine.specs.declared.shortfall.Shortfall.{Shortfall}
use Rattle.link.specs.declared.refusal.Refusal.{Refusal}
use Rattle.link.specs.declared.refusal.Refusal.TheVariants as why
use Rattle.link.specs.Calls.{Answer, refused, refusal, number_of}
use Rattle.bench.specs.Texts.{answer_text}
use Rattle.bench.proofs.Additions.{adds_then}
use Rattle.bench.proofs.listing.Listing.refusal.Goals as goal

-- only one refusal tells values with its number
plain_or_mixings :
    (e : Refusal) → (refusal e ≡ refused (number_of (refusal e)) []) ⊎ ((s : Shortfall) × (e ≡ why.Mixings s))
plain_or_mixings why.NotLive = inl refl
plain_or_mixings why.NotIdle = inl refl
plain_or_mixings why.KeyLength = inl refl
plain_or_mixings why.NonceLength = inl refl
plain_or_mixings why.DataLength = inl refl
plain_or_mixings why.MessageLength = inl refl
plain_or_mixings why.TagMissing = inl refl
plain_or_mixings why.OutputLength = inl refl
plain_or_mixings (why.Mixings s) = inr (s, refl)
plain_or_mixings why.Tag = inl refl

plain_text :
    (e : Refusal) → ((s : Shortfall) → e ≡ why.Mixings s → ⊥) →
    codes "no " ++ decimal (number_of (refusal e)) ≡ answer_text (refusal e) []
plain_text e h =
    let plain : refusal e ≡ refused (number_of (refusal e)) [] =
    ⊎_elim (λ p. p) (λ m. absurd (h m.0 m.1)) (plain_or_mixings e) in
    ap (λ t. codes "no " ++ t) (sym (append-nil (decimal (number_of (refusal e)))))
    ∙ ap (λ (a : Answer). answer_text a []) (sym plain)

mixings_text :
    (e : Refusal) (s : Shortfall) → e ≡ why.Mixings s →
    codes "no " ++ (decimal (number_of (refusal e)) ++ ((codes " " ++ decimal s.wanted) ++ (codes " " ++ decimal s.left)))
    ≡ answer_text (refusal e) []
mixings_text e s h =
    rw h (ap (λ t. codes "no " ++ (decimal 9 ++ (codes " " ++ (decimal s.wanted ++ (codes " " ++ t)))))
    (sym (append-nil (decimal s.left))))

pub returns-in-Mixings-clause-text : goal.returns-in-Mixings-clause-text
returns-in-Mixings-clause-text c =
    let both = adds_then _ c.also.ensures.text _ c.also-in-Mixings.ensures.text in
    let number = rw c.number.ensures.value at c.number-2.ensures.text in
    let all = adds_then (codes "no ") c.word.ensures _ (adds_then _ number _ both) in
    rw (← mixings_text c.args.why c.in-Mixings.short c.in-Mixings.is) all

pub returns-in_default-clause-text : goal.returns-in_default-clause-text
returns-in_default-clause-text c =
    let number = rw c.number.ensures.value at c.number-2.ensures.text in
    let all = adds_then (codes "no ") c.word.ensures _ number in
    rw (← plain_text c.args.why c.in_default.not-Mixings) all
