-- A part in front of the best that can follow it.
use Rattle.placing.proofs.Steps.{fits, begins}
use Rattle.placement.proofs.entries.Entries.begun.Goals as goal

pub plus-requires : goal.plus-requires
plus-requires g c =
    let b = c.in_ok-best.ensures.0 in
    fits g.W.Worth.kind g.met.W.Worth.lawful (g.P.Parts.road c.args.self.now.parts.now) c.requires.ready.bounded c.args.rest.at c.args.owner c.args.rest.left.numbered c.args.rest.left.others b.0 _ _ b.1 c.part.ensures b.2

pub returns : goal.returns
returns g c =
    begins g.W.Worth.kind g.met.W.Worth.lawful (g.P.Parts.road c.args.self.now.parts.now) c.args.rest.at c.args.owner c.args.rest.left.numbered c.args.rest.left.others _ _ _ c.part.ensures c.plus.ensures c.in_ok-best.ensures
