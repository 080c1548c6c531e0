use Rattle.std.proofs.Common.{sym, subst}
use Rattle.model.specs.declared.tandems.Tandem.{Tandem}
use Rattle.lines.specs.Lines.{IsTandem}
use Rattle.lines.proofs.Tandems.{tandem_none}
use Rattle.loads.specs.Grids.{line_on}
use Rattle.loads.proofs.Counts.{rising}
use Rattle.loads.proofs.Choosing.{stands, absent}
use Rattle.loads.proofs.line.Line.tandem.Goals as goal
use Rattle.loads.proofs.line.Line.tandem.Goals.{in_default-via-in-Some+else-p-gt0, in_default-via-in_default}

pub returns-in-Some : goal.returns-in-Some
returns-in-Some c =
    let g = c.args.self.grid.now in
    let s = g.stations in
    let ws = c.args.self.values.now in
    stands (line_on g ws) (rising s.count s.places ws s.placed) c.in-Some.p c.in-Some.ensures c.div_ceil.result c.unsigned_abs.result c.from.result c.if-p-gt0.true c.unsigned_abs.ensures.value c.from.ensures c.div_ceil.ensures

pub returns-in_default : goal.returns-in_default
returns-in_default c =
    let g = c.args.self.grid.now in
    let s = g.stations in
    let ws = c.args.self.values.now in
    let d = line_on g ws in
    subst (λ (x : Tandem). IsTandem d x.t x.place) (sym c.none.ensures) (
    elim c.in_default.branch [
      | in_default-via-in-Some+else-p-gt0 w ↦ absent d (rising s.count s.places ws s.placed) w.in-Some.p w.in-Some.ensures w.if-p-gt0.false
      | in_default-via-in_default w ↦ tandem_none d (λ a b S. absurd (w.in_default.ensures a b S))
    ])
