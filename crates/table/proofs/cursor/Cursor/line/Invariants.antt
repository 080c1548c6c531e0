-- Fields are read up to the byte `end`.
use Rattle.std.proofs.Common.{◌-◌, length}
use Rattle.table.proofs.FirstPass.{Sofar}
use Rattle.table.proofs.cursor.Cursor.line.Given as goal

abbrev pub invariant-loop-end : goal.invariant-loop-end
invariant-loop-end l = Sofar l.self.input.now l.self.at l.fields l.end

abbrev pub decreases-loop-end : goal.decreases-loop-end
decreases-loop-end l = length l.self.input.now - l.end
