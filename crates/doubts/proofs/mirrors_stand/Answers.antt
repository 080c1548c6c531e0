-- Both mirrors.
use Rattle.doubts.proofs.mirrors_stand.Goals as goal
use Rattle.doubts.proofs.Mirrors.{mirrors}

pub returns : goal.returns
returns c = mirrors
