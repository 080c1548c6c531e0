-- What the fields so far wrote, and how much of it is held.
use Rattle.std.proofs.Common.{◌≡◌, ℕ, List, length, drop, min}
use Rattle.table.specs.Cells.{Cell}
use Rattle.table.specs.Lines.{Line}
use Rattle.records.proofs.Progress.{Progress}
use Rattle.records.proofs.numbers.read_numbers.Given as goal

abbrev pub invariant-loop-i : goal.invariant-loop-i
invariant-loop-i g l = (length l.numbers.items ≡ min l.i g.row.ROOM)
    × ((cs : List Cell) (ys : List ℕ) → Line cs (drop l.here.at l.here.input.now) ys → length cs ≡ l.count → Progress g.N.Number.writes g.row.ROOM cs ys l.here.input.now l.i l.at l.numbers.items)
