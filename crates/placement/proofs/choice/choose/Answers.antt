-- One part more, and at the end the winner.
use Rattle.std.proofs.Common.{refl, ap, ◌∙◌, arith}
use Rattle.placing.specs.Placing.{width}
use Rattle.placing.proofs.Readings.{reading_more, reading_end}
use Rattle.model.specs.Owners.{number_of}
use Rattle.placement.proofs.choice.choose.Goals as goal

pub loop-rest-preserved : goal.loop-rest-preserved
loop-rest-preserved g c =
    let R = g.P.Parts.road c.args.entries.now.parts.now in
    let l = c.loop-rest.rest.left in
    let r = c.in-Some.left in
    reading_more g.W.Worth.kind g.met.W.Worth.lawful R c.args.lanes.numbered c.args.lanes.others c.args.owners.now c.requires.ready.bounded c.loop-rest.rest.at l.numbered l.others r.numbered r.others
    c.first_owner-owner.result c.width_of-width.result (number_of c.first_owner-owner.result) c.loop-rest.owners c.mark.new.owners c.loop-rest.invariant c.first_owner-owner.ensures c.in-Some.ensures
    (c.width_of-width.ensures ∙ ap (λ l. width l c.first_owner-owner.result) c.lane.ensures) refl c.mark.ensures.front c.mark.ensures.back

pub returns : goal.returns
returns g c =
    let R = g.P.Parts.road c.args.entries.now.parts.now in
    let l = c.loop-rest.rest.left in
    let e = reading_end g.W.Worth.kind g.met.W.Worth.lawful R c.args.lanes.numbered c.args.lanes.others c.args.owners.now c.requires.ready.bounded c.loop-rest.rest.at l.numbered l.others c.loop-rest.owners c.known_best-best.result c.loop-rest.invariant (omega arith) c.known_best-best.ensures in
    record { best = c.known_best-best.ensures; won = e.0; beyond = e.1 }
