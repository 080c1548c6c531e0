use Rattle.rating.proofs.Ranges.{hundred_bounds}
use Rattle.rating.proofs.job.Job.open.Goals as goal

pub invariant_of-result : goal.invariant_of-result
invariant_of-result g c = record { bounded = hundred_bounds; kept = hundred_bounds }
