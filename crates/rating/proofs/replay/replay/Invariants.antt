use Rattle.std.proofs.Common.{◌≡◌}
use Rattle.rating.proofs.Runs.{Sofar}
use Rattle.rating.proofs.replay.replay.Given as goal

abbrev pub invariant-loop-i : goal.invariant-loop-i
invariant-loop-i g l =
    (l.job.surface ≡ l.initial.job.surface)
    × Sofar (g.S.Surface.shape l.initial.job.surface) l.initial.job.card l.job.card l.calls l.initial.answers l.answers l.i
