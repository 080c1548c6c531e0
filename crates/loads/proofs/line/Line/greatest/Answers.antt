use Rattle.std.proofs.Common.{arith, below_more}
use Rattle.loads.specs.declared.others.Axle.TheVariants.{Rear, Second}
use Rattle.loads.specs.Grids.{line_on}
use Rattle.loads.proofs.Axles.{held, stands, segment, led}
use Rattle.loads.proofs.Counts.{rising}
use Rattle.loads.proofs.Choosing.{best_of}
use Rattle.loads.proofs.line.Line.greatest.Goals as goal

pub tried-best-requires-clause-apart : goal.tried-best-requires-clause-apart
tried-best-requires-clause-apart c =
    let g = c.args.self.grid.now in
    let s = g.stations in
    stands s.count s.places Rear c.loop-i.i _ (held s.count s.places g.others g.paired c.loop-i.i _ (omega arith)).ahead

pub tried-best-requires-clause-under : goal.tried-best-requires-clause-under
tried-best-requires-clause-under c =
    let g = c.args.self.grid.now in
    let s = g.stations in
    segment s.count s.places Rear c.loop-i.i _ (held s.count s.places g.others g.paired c.loop-i.i _ (omega arith)).ahead

pub tried-best-requires-in-loop-i-clause-apart : goal.tried-best-requires-in-loop-i-clause-apart
tried-best-requires-in-loop-i-clause-apart c =
    let g = c.args.self.grid.now in
    let s = g.stations in
    stands s.count s.places Second c.loop-i.i _ (held s.count s.places g.others g.paired c.loop-i.i _ (omega arith)).behind

pub tried-best-requires-in-loop-i-clause-under : goal.tried-best-requires-in-loop-i-clause-under
tried-best-requires-in-loop-i-clause-under c =
    let g = c.args.self.grid.now in
    let s = g.stations in
    segment s.count s.places Second c.loop-i.i _ (held s.count s.places g.others g.paired c.loop-i.i _ (omega arith)).behind

pub loop-i-preserved : goal.loop-i-preserved
loop-i-preserved c =
    let g = c.args.self.grid.now in
    let s = g.stations in
    let d = line_on g c.args.self.values.now in
    let A = c.tried-best.ensures in
    let B = c.tried-best-in-loop-i.ensures in
    let o = held s.count s.places g.others g.paired c.loop-i.i _ (omega arith) in
    record {
      good = B.good;
      ahead = below_more _ _ (λ j h f. B.keeps _ (A.keeps _ (c.loop-i.invariant.ahead j h f))) (λ f. B.keeps _ (led s.count s.places Rear c.loop-i.i _ o.ahead d c.tried-best.result A.leads f));
      behind = below_more _ _ (λ j h f. B.keeps _ (A.keeps _ (c.loop-i.invariant.behind j h f))) (led s.count s.places Second c.loop-i.i _ o.behind d c.tried-best-in-loop-i.result B.leads);
    }

pub returns : goal.returns
returns c =
    let g = c.args.self.grid.now in
    let s = g.stations in
    let ws = c.args.self.values.now in
    best_of (line_on g ws) (rising s.count s.places ws s.placed) c.loop-i.best c.loop-i.invariant.good
    (λ j h. c.loop-i.invariant.ahead j (omega arith)) (λ j h. c.loop-i.invariant.behind j (omega arith))
