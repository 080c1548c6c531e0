use Rattle.std.proofs.Common.{refl}
use Rattle.lines.proofs.Unique.{none_fits, no_tandem, one_fits}
use Rattle.lines.proofs.decks_stand.Goals as goal

pub returns : goal.returns
returns c = record { falling = λ j. refl; halving = λ j. refl; hanging = λ j. refl; none_fits = none_fits; no_tandem = no_tandem; one_fits = one_fits }
