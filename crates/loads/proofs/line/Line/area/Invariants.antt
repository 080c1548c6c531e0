use Rattle.std.proofs.Common.{◌≡◌}
use Rattle.lines.specs.Areas.{area_to}
use Rattle.loads.specs.Grids.{line_on}
use Rattle.loads.proofs.line.Line.area.Given as goal

abbrev pub invariant-loop-k : goal.invariant-loop-k
invariant-loop-k l = l.sum ≡ area_to (line_on l.self.grid.now l.self.values.now) l.k
