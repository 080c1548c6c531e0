-- What is chosen from here on completes the owners written so far.
use Rattle.std.proofs.Common.{◌-◌}
use Rattle.placing.proofs.Readings.{Reading}
use Rattle.placement.proofs.choice.choose.Given as goal

abbrev pub invariant-loop-rest : goal.invariant-loop-rest
invariant-loop-rest g l = Reading g.W.Worth.kind g.met.W.Worth.lawful (g.P.Parts.road l.entries.parts.now) l.initial.rest.left.numbered l.initial.rest.left.others l.initial.owners l.rest.at l.rest.left.numbered l.rest.left.others l.owners

abbrev pub decreases-loop-rest : goal.decreases-loop-rest
decreases-loop-rest g l = l.slices - l.rest.at
