-- A three-bit set has at most three ones.
use Rattle.std.proofs.Common.{arith}
use Rattle.placing.proofs.Sets.{digits}
use Rattle.placement.proofs.lanes.ones_of.Goals as goal

pub overflow_cast-result : goal.overflow_cast-result
overflow_cast-result c = let d = digits c.args.numbered c.requires in omega arith

pub returns : goal.returns
returns c = let d = digits c.args.numbered c.requires in omega arith
