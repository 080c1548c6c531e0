use Rattle.std.proofs.Common.{◌+◌, ◌-◌, ◌<◌, ◌≤◌, slice_index}
use Rattle.loads.proofs.stations.Stations.segment_under.Given as goal

abbrev pub invariant-search : goal.invariant-search
invariant-search l = record { inside : l.k + 1 < l.self.count; above : slice_index l.self.places l.k ≤ l.place }

abbrev pub decreases-search : goal.decreases-search
decreases-search l = l.self.count - l.k
