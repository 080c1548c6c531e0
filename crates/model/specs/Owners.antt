-- An owner's number: 0 for the remaining area, 1 to 3 for the lane of that number, 4 for any other lane.
use Rattle.std.specs.Prelude.{ℕ}
use Rattle.model.specs.declared.owners.Owner.{Owner}
use Rattle.model.specs.declared.owners.Owner.TheVariants.{Remaining, Lane1, Lane2, Lane3, Other}

abbrev pub number_of : Owner → ℕ
number_of Remaining = 0
number_of Lane1 = 1
number_of Lane2 = 2
number_of Lane3 = 3
number_of Other = 4
