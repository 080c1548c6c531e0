use Rattle.std.proofs.Common.{◌+◌, get_or, arith}
use Rattle.loads.specs.Grids.{line_on}
use Rattle.loads.proofs.Axles.{at_most_last}
use Rattle.loads.proofs.Counts.{rising}
use Rattle.loads.proofs.Choosing.{placed_at, tried_some}
use Rattle.loads.proofs.line.Line.tried.Goals as goal

pub peak-new-requires-clause-under : goal.peak-new-requires-clause-under
peak-new-requires-clause-under c = c.requires.under c.in-Some.other c.in-Some.is

pub returns : goal.returns
returns c =
    let g = c.args.self.grid.now in
    let s = g.stations in
    let ws = c.args.self.values.now in
    let o = c.in-Some.other in
    let u = c.requires.under o c.in-Some.is in
    let up = at_most_last s.count s.places s.placed (o.segment + 1) u.inside in
    tried_some (line_on g ws) c.args.best (get_or s.places c.args.i 0) c.args.other o c.peak-new.result c.better.result c.in-Some.is c.requires.good
    (placed_at (line_on g ws) (rising s.count s.places ws s.placed) c.args.i o.place c.peak-new.result c.requires.there (at_most_last s.count s.places s.placed c.args.i c.requires.there)
    (omega (arith, u.below)) c.peak-new.ensures.sum (c.requires.apart o c.in-Some.is) c.peak-new.ensures.place)
    c.peak-new.ensures.place c.better.ensures
