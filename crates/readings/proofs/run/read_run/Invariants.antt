-- What is known before each row.
use Rattle.std.proofs.Common.{◌≡◌, ◌-◌, length}
use Rattle.readings.proofs.Underway.{Underway}
use Rattle.readings.proofs.run.read_run.Given as goal

abbrev pub invariant-loop-here : goal.invariant-loop-here
invariant-loop-here l = (length l.filled ≡ 64) × (l.here.input.now ≡ l.input) × Underway l.input l.rows l.filled l.header.fields l.here.at l.here.record l.draft

abbrev pub decreases-loop-here : goal.decreases-loop-here
decreases-loop-here l = length l.input - l.here.at
