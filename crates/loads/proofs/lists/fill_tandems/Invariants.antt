use Rattle.std.proofs.Common.{ℕ, ◌<◌, slice_index_or}
use Rattle.model.specs.Lanes.{breadth, lane_slices}
use Rattle.model.specs.Tandems.{no_tandem}
use Rattle.loads.specs.Filled.{TandemAt}
use Rattle.loads.proofs.lists.fill_tandems.Given as goal

abbrev pub invariant-loop-x : goal.invariant-loop-x
invariant-loop-x l = (x : ℕ) → x < l.x → TandemAt l.grid.stations.count l.grid.stations.places l.grid.heights (breadth l.fn.carriageway) (lane_slices l.fn.carriageway.width) x (slice_index_or l.tandem-items x no_tandem)
