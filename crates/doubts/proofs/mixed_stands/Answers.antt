-- One arrangement with everything in it.
use Rattle.doubts.proofs.mixed_stands.Goals as goal
use Rattle.doubts.proofs.Mixed.{mixed}

pub returns : goal.returns
returns c = mixed
