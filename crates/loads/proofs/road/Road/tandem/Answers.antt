use Rattle.std.proofs.Common.{ℕ, subst, arith}
use Rattle.lines.specs.Lines.{IsTandem}
use Rattle.loads.specs.Held.{lane_line}
use Rattle.loads.proofs.road.Road.tandem.Goals as goal

pub returns : goal.returns
returns c =
    let g = c.args.self.grid.now in
    let s = g.stations in
    let e = c.lane_slices-lane.ensures in
    record {
      fits = λ h. subst (λ (l : ℕ). IsTandem (lane_line s.count s.places g.heights c.args.start l) c.tandem.result.t c.tandem.result.place) e c.tandem.ensures;
      none = λ h. absurd (omega (arith, c.slices-slices.ensures, e));
    }
