use Rattle.std.proofs.Common.{rules}
use Rattle.rating.proofs.Ranges.{bounds_reduced}
use Rattle.rating.proofs.job.Job.factors.Goals as goal

pub invariant_of-self : goal.invariant_of-self
invariant_of-self g c = search (rules, bounds_reduced)
