use Rattle.std.proofs.Common.{refl}
use Rattle.lines.proofs.Agreeing.{tandem_same}
use Rattle.loads.specs.Grids.{line_on}
use Rattle.loads.specs.Held.{lane_line}
use Rattle.loads.proofs.lanes.Lane.tandem.Goals as goal

pub returns : goal.returns
returns c =
    let l = c.args.self in
    let g = l.grid.now in
    let s = g.stations in
    tandem_same (line_on g c.values-values.result) (lane_line s.count s.places g.heights l.start l.slices) (record { count = refl; place = λ k i. refl; value = c.values-values.ensures.value }) s.placed.some _ _ c.tandem.ensures
