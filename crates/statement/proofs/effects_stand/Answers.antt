-- The facts about exact and rounded effects.
use Rattle.statement.proofs.effects_stand.Goals as goal
use Rattle.statement.proofs.Effects.{bounded, shown, nearby}
use Rattle.statement.proofs.Owners.{owners_tell}

pub returns : goal.returns
returns c = record { bounded = bounded; shown = shown; near = nearby; owners = owners_tell }
