use Rattle.std.proofs.Common.{◌≡◌, ℕ, ◌+◌, ◌<◌, ◌≤◌, [], pos, slice_index_or, unsigned_abs}
use Rattle.loads.proofs.held.rows_of.Given as goal

abbrev pub invariant-loop-j : goal.invariant-loop-j
invariant-loop-j g l = record {
  value : (i k : ℕ) → i < l.j → k < (g.S.Surface.shape l.surface).stations → slice_index_or (slice_index_or l.row-items i []) k (pos 0) ≡ (g.S.Surface.shape l.surface).ordinate (l.first + i) k;
  low : (i k : ℕ) → unsigned_abs (slice_index_or (slice_index_or l.row-items i []) k (pos 0)) ≤ 100000;
}
