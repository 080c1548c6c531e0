-- A carriageway whose parts' worths are written by hand.
use Rattle.std.specs.Prelude.{ℕ, min, List, length, slice_index_or}
use Rattle.model.specs.declared.owners.Owner.{Owner}
use Rattle.model.specs.declared.owners.Owner.TheVariants.{Remaining, Lane1, Lane2, Lane3, Other}
use Rattle.placing.specs.Placing.{Road}
use Rattle.placing.specs.Loaded.{kerb_of}
use Rattle.placement_trials.specs.declared.hand_made.Row.{Row}

abbrev pub no_row : Row
no_row = record { remaining = 0; lane1 = 0; lane2 = 0; lane3 = 0; other = 0 }

abbrev pub written : Row → Owner → ℕ
written r Remaining = r.remaining
written r Lane1 = r.lane1
written r Lane2 = r.lane2
written r Lane3 = r.lane3
written r Other = r.other

abbrev pub hand_made : {W : Type 0} → (ℕ → ℕ → W) → ℕ → List Row → Road W
hand_made made lane rows = record { slices = length rows; lane = lane; part = λ p j. made (min (written (slice_index_or rows j no_row) p) 1000000) (kerb_of p j) }
