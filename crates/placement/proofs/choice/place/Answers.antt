-- Where the lanes fit there is a placement, and the mirrored carriageway has the same best.
use Rattle.std.proofs.Common.{rules}
use Rattle.placing.proofs.Mirrors.{same_mirrored}
use Rattle.placing.proofs.Rooms.{some_placement}
use Rattle.placement.proofs.choice.place.Goals as goal

pub choose-requires : goal.choose-requires
choose-requires g c = let s = some_placement (g.P.Parts.road c.args.parts.now) c.args.lanes.numbered c.args.lanes.others c.args.lanes.numbered_low c.requires.fits in search rules

pub returns : goal.returns
returns g c =
    let R = g.P.Parts.road c.args.parts.now in
    let h = c.choose.ensures in
    record {
      filled = c.fill.ensures.filled;
      bests_beyond = c.fill.ensures.beyond;
      best = h.best;
      won = h.won;
      owners_beyond = h.beyond;
      mirrored = same_mirrored g.W.Worth.kind g.met.W.Worth.lawful R c.args.lanes.numbered c.args.lanes.others c.choose.result h.best;
    }
