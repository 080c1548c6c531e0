-- What the fields so far wrote, and which places it stands in.
use Rattle.std.proofs.Common.{◌≡◌, ℕ, List, length, drop}
use Rattle.table.specs.Cells.{Cell}
use Rattle.table.specs.Lines.{Line}
use Rattle.records.proofs.Progress.{Filling}
use Rattle.records.proofs.numbers.fill_numbers.Given as goal

abbrev pub invariant-loop-i : goal.invariant-loop-i
invariant-loop-i g l = (length l.into ≡ length l.fn.into)
    × ((cs : List Cell) (ys : List ℕ) → Line cs (drop l.here.at l.here.input.now) ys → length cs ≡ l.count → Filling g.N.Number.writes cs ys l.here.input.now l.i l.at l.fn.into l.into)
