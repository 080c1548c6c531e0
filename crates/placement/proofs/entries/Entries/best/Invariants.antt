-- The best so far is the best of the placements that begin with an owner tried.
use Rattle.placing.specs.Placing.{Placement, Greatest, worth}
use Rattle.placing.proofs.Steps.{Heads}
use Rattle.placement.proofs.entries.Entries.best.Given as goal

abbrev pub invariant-loop-owner : goal.invariant-loop-owner
invariant-loop-owner g l =
    let R = g.P.Parts.road l.self.parts.now in
    Greatest g.W.Worth.kind (λ ps. Placement R l.rest.at l.rest.left.numbered l.rest.left.others ps × Heads l.owner-index ps) (worth g.W.Worth.kind R l.rest.at) l.best
