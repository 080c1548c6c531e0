-- The order of lanes matters.
use Rattle.doubts.proofs.winners_differ.Goals as goal
use Rattle.doubts.proofs.Winners.{differ}

pub returns : goal.returns
returns c = differ
