-- The records so far belong to the surface.
use Rattle.std.proofs.Common.{◌≡◌, ◌-◌, length}
use Rattle.script.proofs.Surface.{Sofar}
use Rattle.script.proofs.part.surface_end.Given as goal

abbrev pub invariant-loop-here : goal.invariant-loop-here
invariant-loop-here l = (l.here.cursor.input.now ≡ l.script.bytes.now) × Sofar l.script.bytes.now l.here.cursor.at l.here.cursor.«record»

abbrev pub decreases-loop-here : goal.decreases-loop-here
decreases-loop-here l = length l.script.bytes.now - l.here.cursor.at
