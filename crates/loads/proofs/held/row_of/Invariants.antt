use Rattle.std.proofs.Common.{◌≡◌, ℕ, ◌<◌, ◌≤◌, pos, slice_index_or, unsigned_abs}
use Rattle.loads.proofs.held.row_of.Given as goal

abbrev pub invariant-loop-k : goal.invariant-loop-k
invariant-loop-k g l = record {
  value : (i : ℕ) → i < l.k → slice_index_or l.height-items i (pos 0) ≡ (g.S.Surface.shape l.surface).ordinate l.j i;
  low : (i : ℕ) → unsigned_abs (slice_index_or l.height-items i (pos 0)) ≤ 100000;
}
