-- What rounding adds, and what the allowance gives back.
use Rattle.doubts.proofs.allowance_stands.Goals as goal
use Rattle.doubts.proofs.Allowance.{rounds}

pub returns : goal.returns
returns c = rounds
