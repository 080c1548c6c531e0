-- The bytes passed have quotes only in pairs.
use Rattle.std.proofs.Common.{◌-◌, ◌≤◌, length, take}
use Rattle.table.specs.Cells.{Paired}
use Rattle.table.proofs.field.closing_quote.Given as goal

abbrev pub invariant-loop-i : goal.invariant-loop-i
invariant-loop-i l = Paired (take l.i l.inner) × (l.i ≤ length l.inner)

abbrev pub decreases-loop-i : goal.decreases-loop-i
decreases-loop-i l = length l.inner - l.i
