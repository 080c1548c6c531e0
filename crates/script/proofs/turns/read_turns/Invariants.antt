-- The words so far name the turns so far.
use Rattle.std.proofs.Common.{◌≡◌, ℕ, ◌<◌, List, length}
use Rattle.table.specs.Cells.{Cell}
use Rattle.table.specs.Lines.{Line, text_at}
use Rattle.script.proofs.Turning.{Turning}
use Rattle.script.proofs.turns.read_turns.Given as goal

abbrev pub invariant-loop-i : goal.invariant-loop-i
invariant-loop-i l = (ds : List Cell) (ys : List ℕ) → (0 < length ds → Line ds (text_at l.here) ys) → length ds ≡ l.count → Turning ds ys (text_at l.rest) l.i l.turns
