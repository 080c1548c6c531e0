-- Loaded parts are light enough to be placed, and what wins is rated.
use Rattle.std.proofs.Common.{rules}
use Rattle.placing.specs.Loaded.{loaded}
use Rattle.placing.proofs.Loaded.{loaded_bounded, rated}
use Rattle.placing.proofs.LoadsTurned.{loads_turned}
use Rattle.loaded.specs.Lent.{loads_of}
use Rattle.loaded.proofs.Lent.{low}
use Rattle.loaded.proofs.rated.place_loads.Goals as goal

pub place-requires : goal.place-requires
place-requires g c =
    let b = loaded_bounded g.W.Worth.kind g.W.Worth.made g.met.W.Worth.counts (loads_of c.args.loads.now) (low c.args.loads.now) in
    search rules

pub returns : goal.returns
returns g c =
    let h = c.place.ensures in
    record {
      filled = h.filled;
      bests_beyond = h.bests_beyond;
      rated = rated g.W.Worth.kind g.W.Worth.made g.met.W.Worth.counts (loads_of c.args.loads.now) c.args.loads.now.lanes.numbered c.args.loads.now.lanes.others _ _ h.won;
      owners_beyond = h.owners_beyond;
      mirrored = λ either even k r. h.mirrored either (loaded g.W.Worth.made k) (loads_turned (loads_of c.args.loads.now) k r g.W.Worth.made even);
    }
