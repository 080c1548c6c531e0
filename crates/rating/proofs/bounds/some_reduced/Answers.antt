use Rattle.std.proofs.Common.{rules}
use Rattle.card.specs.Bounds.{some_reduced}
use Rattle.rating.proofs.bounds.some_reduced.Goals as goal

pub returns : goal.returns
unfolding some_reduced
returns c = search rules
