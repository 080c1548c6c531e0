use Rattle.std.proofs.Common.{◌≡◌, ℕ, ◌-◌, ◌<◌, slice_index}
use Rattle.lines.specs.Areas.{area_to}
use Rattle.loads.specs.Held.{row_of}
use Rattle.loads.specs.Grids.{line_on}
use Rattle.loads.proofs.lists.fill_areas.Given as goal

abbrev pub invariant-loop-j : goal.invariant-loop-j
invariant-loop-j l = (j : ℕ) → j < l.j → slice_index l.area-items j ≡ area_to (line_on l.grid (row_of l.grid.heights j)) (l.grid.stations.count - 1)
