-- The level deck is within the bounds of loads.
use Rattle.std.proofs.Common.{arith}
use Rattle.placement_trials.proofs.Level.{level_low}
use Rattle.placement_trials.proofs.deck.placed_on_deck.Goals as goal

pub new-loads-requires : goal.new-loads-requires
new-loads-requires g c = record { wide = omega arith; low = level_low c.args.width (omega arith) (omega arith); areas_long = omega arith; tandems_long = omega arith }
