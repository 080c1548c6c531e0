-- The records so far say the entries so far.
use Rattle.std.proofs.Common.{◌≡◌, ◌-◌, length, vec_items}
use Rattle.script.proofs.Reading.{Reading}
use Rattle.script.proofs.entries.read_entries.Given as goal

abbrev pub invariant-loop-here : goal.invariant-loop-here
invariant-loop-here g l = (l.here.cursor.input.now ≡ l.from.cursor.input.now) × Reading g.E.Entry.said l.from.cursor.input.now l.from.cursor.at l.from.cursor.«record» (vec_items l.entries) l.here.cursor.at l.here.cursor.«record»

abbrev pub decreases-loop-here : goal.decreases-loop-here
decreases-loop-here g l = length l.from.cursor.input.now - l.here.cursor.at
