-- Rivals of each kind.
use Rattle.doubts.proofs.rivals_exist.Goals as goal
use Rattle.doubts.proofs.Rivals.{rivals}

pub returns : goal.returns
returns c = rivals
