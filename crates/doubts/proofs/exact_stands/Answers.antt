-- Exact effects worked by hand.
use Rattle.doubts.proofs.exact_stands.Goals as goal
use Rattle.doubts.proofs.Exact.{worked}

pub returns : goal.returns
returns c = worked
