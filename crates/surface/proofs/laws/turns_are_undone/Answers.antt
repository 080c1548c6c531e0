use Rattle.surface.proofs.Undone.{turns_undone}
use Rattle.surface.proofs.laws.turns_are_undone.Goals as goal

pub returns : goal.returns
returns c = turns_undone
