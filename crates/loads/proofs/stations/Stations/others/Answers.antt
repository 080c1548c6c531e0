use Rattle.std.proofs.Common.{ℕ, arith}
use Rattle.loads.specs.declared.others.Axle.TheVariants.{Rear, Second}
use Rattle.loads.specs.declared.others.Others.{Others}
use Rattle.loads.specs.Axles.{OthersAre}
use Rattle.loads.proofs.Axles.{next_station}
use Rattle.loads.proofs.Each.{fill_more}
use Rattle.loads.proofs.stations.Stations.others.Goals as goal

pub loop-i-preserved : goal.loop-i-preserved
loop-i-preserved c =
    let s = c.args.self.now in
    record {
      filled = λ i o h.
          fill_more (λ (j : ℕ) (x : Others). OthersAre s.count s.places j x) c.loop-i.others-items c.loop-i.i _ o (omega arith) (λ j l. c.loop-i.invariant.filled j o l)
          (record { ahead = c.other.ensures; behind = c.other-in-loop-i.ensures }) i h;
      ahead = next_station s.count s.places s.placed Rear c.loop-i.i _ c.other.ensures;
      behind = next_station s.count s.places s.placed Second c.loop-i.i _ c.other-in-loop-i.ensures;
    }
