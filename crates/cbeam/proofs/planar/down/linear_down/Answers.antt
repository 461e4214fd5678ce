use Rattle.std.proofs.Common.{◌≡◌, get_or, ap, ◌∙◌, rules}
use lib.Bits.{bit_xor}
use Rattle.std.specs.List.{fold}
use Rattle.cbeam.proofs.DownLinear.{all_four, linear_columns}
use Rattle.engine.proofs.Made.{each}
use Rattle.cbeam.proofs.planar.down.linear_down.Goals as goal

pub returns : goal.returns
returns c =
    let q = c.args.words.now in
    let all : c.fold-all.result ≡ fold bit_xor 0 q = search rules in
    linear_columns q c.map.result
    (λ u h.
    each _ (λ x y. y ≡ bit_xor x (fold bit_xor 0 q)) (λ x y p k. search (rules, all)) c.map.ensures.items u h
    ∙ ap (bit_xor (get_or q u 0)) (all_four q c.told-words))
