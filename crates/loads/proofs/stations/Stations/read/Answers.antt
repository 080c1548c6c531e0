use Rattle.loads.proofs.Deck.{places_held}
use Rattle.loads.proofs.stations.Stations.read.Goals as goal

pub invariant_of-result : goal.invariant_of-result
invariant_of-result g c = record { placed = places_held (g.S.Surface.shape c.args.surface.now) (g.S.Surface.lawful c.args.surface.now) c.stations-count.result c.places_of-places.result c.stations-count.ensures c.places_of-places.ensures }
