use Rattle.std.proofs.Common.{rules}
use Rattle.card.specs.Bounds.{in_bounds}
use Rattle.rating.proofs.bounds.in_bounds.Goals as goal

pub returns : goal.returns
unfolding in_bounds
returns c = search rules
