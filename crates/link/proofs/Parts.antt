-- A list in two parts.
use Rattle.std.proofs.Common.{◌≡◌, ℕ, List, ◌++◌, take, drop}
use Rattle.std.proofs.lemmas.List.{take-append-drop}

pub joined : (n : ℕ) {xs s t : List ℕ} → s ≡ take n xs → t ≡ drop n xs → s ++ t ≡ xs
joined n {xs} front back = rw (front, back) (take-append-drop n xs)
