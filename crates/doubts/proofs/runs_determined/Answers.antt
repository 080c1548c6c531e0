-- Two runs of the same calls.
use Rattle.doubts.proofs.runs_determined.Goals as goal
use Rattle.doubts.proofs.RunsAlike.{one_run}

pub returns : goal.returns
returns c = one_run
