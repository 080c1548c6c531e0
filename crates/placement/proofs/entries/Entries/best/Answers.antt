-- No room, the end, and one owner more to begin with.
use Rattle.std.proofs.Common.{◌≡◌, arith}
use Rattle.placing.proofs.Steps.{too_few, at_end, one_more, all_heads}
use Rattle.placement.proofs.Places.{place_number}
use Rattle.placement.proofs.entries.Entries.best.Goals as goal

pub returns-then-count-lane : goal.returns-then-count-lane
returns-then-count-lane g c =
    too_few (g.P.Parts.road c.args.self.now.parts.now) c.args.rest.at c.args.rest.left.numbered c.args.rest.left.others c.count.result c.lane.result c.args.rest.left.numbered_low c.count.ensures.count c.lane.ensures (omega arith)

pub returns-then-rest-slices : goal.returns-then-rest-slices
returns-then-rest-slices g c =
    at_end g.W.Worth.kind g.met.W.Worth.lawful (g.P.Parts.road c.args.self.now.parts.now) c.requires.ready.bounded c.args.rest.at c.args.rest.left.numbered c.args.rest.left.others c.count.result c.lane.result _
    c.args.rest.left.numbered_low c.count.ensures.count c.lane.ensures (omega arith) (omega arith) c.zero.ensures

pub loop-owner-preserved : goal.loop-owner-preserved
loop-owner-preserved g c =
    let K = g.W.Worth.kind in
    let R = g.P.Parts.road c.args.self.now.parts.now in
    let n = place_number c.loop-owner.owner-index _ c.loop-owner-test.true in
    rw c.better_of-best.ensures (one_more K g.met.W.Worth.lawful R c.args.rest.at c.args.rest.left.numbered c.args.rest.left.others _ c.loop-owner.owner-index c.loop-owner.best c.begun.result n c.loop-owner.invariant c.begun.ensures)

pub returns : goal.returns
returns g c =
    let K = g.W.Worth.kind in
    let R = g.P.Parts.road c.args.self.now.parts.now in
    let e : c.loop-owner.owner-index ≡ 5 = omega arith in
    all_heads K g.met.W.Worth.lawful R c.args.rest.at c.args.rest.left.numbered c.args.rest.left.others c.loop-owner.best (omega arith) (rw e at c.loop-owner.invariant)
