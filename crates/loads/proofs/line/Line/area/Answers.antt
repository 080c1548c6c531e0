use Rattle.std.proofs.Common.{◌≡◌, ◌+◌, arith}
use Rattle.lines.specs.Areas.{area_to}
use Rattle.lines.proofs.Areas.{area_within}
use Rattle.loads.specs.Grids.{line_on}
use Rattle.loads.proofs.Counts.{rising, one_more}
use Rattle.loads.proofs.line.Line.area.Goals as goal

more : (c : goal.After-segment_area-sum) → c.loop-k.sum + c.segment_area-sum.result ≡ area_to (line_on c.args.self.grid.now c.args.self.values.now) (c.loop-k.k + 1)
more c =
    let s = c.args.self.grid.now.stations in
    one_more s.count s.places c.args.self.values.now c.args.self.low c.loop-k.k c.loop-k.sum c.segment_area-sum.result (omega arith) c.segment_area-sum.ensures c.loop-k.invariant

pub overflow_add-sum : goal.overflow_add-sum
overflow_add-sum c =
    let s = c.args.self.grid.now.stations in
    let ws = c.args.self.values.now in
    omega (arith, more c, area_within 400000 (line_on c.args.self.grid.now ws) (rising s.count s.places ws s.placed) c.args.self.low (c.loop-k.k + 1) (omega arith), s.placed.ends (c.loop-k.k + 1) (omega arith))

pub loop-k-preserved : goal.loop-k-preserved
loop-k-preserved c = more c
