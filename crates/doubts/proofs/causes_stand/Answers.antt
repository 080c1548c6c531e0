-- Every cause of refusal.
use Rattle.doubts.proofs.causes_stand.Goals as goal
use Rattle.doubts.proofs.Causes.{causes}

pub returns : goal.returns
returns c = causes
