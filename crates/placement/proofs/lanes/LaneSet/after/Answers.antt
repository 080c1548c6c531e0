-- A lane is taken from the set where its digit is one, and from no other set.
use Rattle.std.proofs.Common.{◌-◌, arith}
use Rattle.placing.proofs.Sets.{digits}
use Rattle.placement.proofs.lanes.LaneSet.after.Goals as goal

pub overflow_sub-result-in-Lane3 : goal.overflow_sub-result-in-Lane3
overflow_sub-result-in-Lane3 c = let d = digits c.args.self.numbered c.args.self.numbered_low in omega arith

pub returns-in-Lane1 : goal.returns-in-Lane1
returns-in-Lane1 c = let d = digits c.args.self.numbered c.args.self.numbered_low in let e = digits (c.args.self.numbered - 1) (omega arith) in rw c.in-Lane1.is (omega arith)

pub returns-in-Lane2 : goal.returns-in-Lane2
returns-in-Lane2 c = let d = digits c.args.self.numbered c.args.self.numbered_low in let e = digits (c.args.self.numbered - 2) (omega arith) in rw c.in-Lane2.is (omega arith)

pub returns-in-Lane3 : goal.returns-in-Lane3
returns-in-Lane3 c = let d = digits c.args.self.numbered c.args.self.numbered_low in let e = digits (c.args.self.numbered - 4) (omega arith) in rw c.in-Lane3.is (omega arith)

pub returns-in_default : goal.returns-in_default
returns-in_default c ps h = let d = digits c.args.self.numbered c.args.self.numbered_low in let k = rw c.in-Lane1.is at h in omega arith

pub returns-in_default-2 : goal.returns-in_default-2
returns-in_default-2 c ps h = let d = digits c.args.self.numbered c.args.self.numbered_low in let k = rw c.in-Lane2.is at h in omega arith

pub returns-in_default-3 : goal.returns-in_default-3
returns-in_default-3 c ps h = let d = digits c.args.self.numbered c.args.self.numbered_low in let k = rw c.in-Lane3.is at h in omega arith
