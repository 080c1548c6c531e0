-- No owner passed over begins a placement of the best worth.
use Rattle.placing.proofs.Chosen.{Passed}
use Rattle.placement.proofs.entries.Entries.first_owner.Given as goal

abbrev pub invariant-loop-owner : goal.invariant-loop-owner
invariant-loop-owner g l = Passed g.W.Worth.kind g.met.W.Worth.lawful (g.P.Parts.road l.self.parts.now) l.rest.at l.rest.left.numbered l.rest.left.others l.best l.owner-index
