use Rattle.algebra.proofs.Sums.{total_bound, total_near}
use Rattle.algebra.proofs.sums_stand.Goals as goal

pub returns : goal.returns
returns c = record { bound = total_bound; near = total_near }
