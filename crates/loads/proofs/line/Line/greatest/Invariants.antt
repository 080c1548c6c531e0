use Rattle.std.proofs.Common.{ℕ, ◌+◌, ◌-◌, ◌<◌, ◌≤◌, slice_index}
use Rattle.loads.specs.Grids.{line_on}
use Rattle.loads.specs.Peaks.{Good, Leads}
use Rattle.loads.proofs.line.Line.greatest.Given as goal

abbrev pub invariant-loop-i : goal.invariant-loop-i
invariant-loop-i l =
    let s = l.self.grid.now.stations in
    let d = line_on l.self.grid.now l.self.values.now in
    record {
      good : Good d l.best;
      ahead : (j : ℕ) → j < l.i → slice_index s.places j + 1200 ≤ slice_index s.places (s.count - 1) → Leads d l.best (slice_index s.places j);
      behind : (j : ℕ) → j < l.i → 1200 ≤ slice_index s.places j → Leads d l.best (slice_index s.places j - 1200);
    }
