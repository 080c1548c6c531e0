use Rattle.std.proofs.Common.{refl}
use Rattle.measured.proofs.Spreading.{between_paths, left_of_paths, right_of_paths}
use Rattle.measured.proofs.laws.ordinates_are_spread.Goals as goal

pub returns : goal.returns
returns c = record { between = between_paths; left = left_of_paths; right = right_of_paths; rounded = refl }
