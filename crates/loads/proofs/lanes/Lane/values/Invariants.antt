use Rattle.std.proofs.Common.{◌≡◌, ℕ, ◌<◌, ◌≤◌, pos, slice_index_or, unsigned_abs}
use Rattle.loads.specs.Held.{held_sum}
use Rattle.loads.proofs.lanes.Lane.values.Given as goal

abbrev pub invariant-loop-k : goal.invariant-loop-k
invariant-loop-k l = record {
  value : (i : ℕ) → i < l.k → slice_index_or l.value-items i (pos 0) ≡ held_sum l.self.grid.now.heights l.self.start l.self.slices i;
  within : (i : ℕ) → i < l.k → unsigned_abs (slice_index_or l.value-items i (pos 0)) ≤ 400000;
}
