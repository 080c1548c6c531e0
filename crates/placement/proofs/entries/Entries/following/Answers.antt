-- The entry after a part is the best of what can follow it.
use Rattle.std.proofs.Common.{ap, subst, ◌∙◌, arith}
use Rattle.placing.specs.Placing.{width, Greatest}
use Rattle.placing.proofs.Steps.{next}
use Rattle.placement.proofs.entries.Entries.following.Goals as goal

pub returns : goal.returns
returns g c =
    let R = g.P.Parts.road c.args.self.now.parts.now in
    let r = c.in_ok-left.left in
    subst (Greatest g.W.Worth.kind _ _) c.index-self-entry.is
    (next g.W.Worth.kind R c.args.self.now.bests.now c.index-self-entry.result c.args.rest.at c.args.owner _ c.args.rest.left.numbered c.args.rest.left.others r.numbered r.others c.requires.ready.bounded c.requires.ready.filled c.requires.ready.long
    c.in_ok-left.ensures r.numbered_low r.others_low (c.width_of-width.ensures ∙ ap (λ l. width l c.args.owner) c.lane.ensures) (omega arith) (rw c.entry.ensures at c.index-self-entry.is))
