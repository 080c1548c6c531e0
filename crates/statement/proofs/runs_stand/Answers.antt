-- The whole of a run that is met.
use Rattle.statement.proofs.runs_stand.Goals as goal
use Rattle.statement.proofs.Runs.{whole_from_met}

pub returns : goal.returns
returns c = whole_from_met
