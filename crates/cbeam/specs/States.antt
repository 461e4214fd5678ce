-- The 32 bytes of rows are a state whatever the rows are, so π takes anything to a state.
use Rattle.std.specs.Prelude.{ℕ, zero, suc, ◌*◌, ◌/◌, ◌%◌, ◌^◌, ◌<◌, List, [], ◌∷◌, map, slice_index, refl}
use Rattle.std.proofs.Common.{mod-lt, arith}
use Rattle.std.specs.List.{range_with_len}
use Rattle.engine.specs.States.{State, Bytes, Mixes}
use Rattle.cbeam.specs.Permutation.{rows_of, byte_of, bytes_of, rounds, pi}

small_map : (f : ℕ → ℕ) → ((k : ℕ) → f k < 256) → (ks : List ℕ) → Bytes (map f ks)
small_map f h [] i = omega arith
small_map f h (k ∷ ks) zero = h k
small_map f h (k ∷ ks) (suc i) = small_map f h ks i

pub bytes_state : (s : List ℕ) → State (bytes_of s)
unfolding bytes_of
bytes_state s = record {
  long = refl;
  small = small_map (byte_of s) (λ k. mod-lt (slice_index s (k / 2) / 2 ^ (8 * (k % 2))) (omega arith)) (range_with_len 0 32);
}

pub pi_state : Mixes pi
unfolding pi
pi_state xs s = bytes_state (rounds 6 (rows_of xs))
