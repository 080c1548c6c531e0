use Rattle.std.proofs.Common.{ℕ, ◌<◌, slice_index_or}
use Rattle.loads.specs.declared.others.Axle.TheVariants.{Rear, Second}
use Rattle.loads.specs.declared.others.Others.{Others}
use Rattle.loads.specs.Axles.{Before, OthersAre}
use Rattle.loads.proofs.stations.Stations.others.Given as goal

abbrev pub invariant-loop-i : goal.invariant-loop-i
invariant-loop-i l = record {
  filled : (i : ℕ) (o : Others) → i < l.i → OthersAre l.self.count l.self.places i (slice_index_or l.others-items i o);
  ahead : l.i < l.self.count → Before l.self.count l.self.places Rear l.i l.before.ahead;
  behind : l.i < l.self.count → Before l.self.count l.self.places Second l.i l.before.behind;
}
