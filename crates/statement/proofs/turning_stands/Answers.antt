-- Both turns.
use Rattle.statement.proofs.turning_stands.Goals as goal
use Rattle.statement.proofs.Turns.{sides_permitted, ends_permitted, keeps, keeps_ends}

pub returns : goal.returns
returns c = record { sides_permitted = sides_permitted; ends_permitted = ends_permitted; sides = keeps; ends = keeps_ends }
