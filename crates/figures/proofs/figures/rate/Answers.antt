-- What is filled is low enough to be placed, and what is placed is the figure.
use Rattle.std.proofs.Common.{arith}
use Rattle.figures.specs.Lent.{setting, lengths}
use Rattle.figures.proofs.Tested.{fits, reach, each_low}
use Rattle.figures.proofs.Listing.{areas_listed, tandems_listed, lists_low, figured}
use Rattle.figures.proofs.figures.rate.Goals as goal

pub place_listed-won-requires : goal.place_listed-won-requires
place_listed-won-requires g c =
    let s = setting (g.S.Surface.shape c.args.surface.now) c.args.kerbs c.args.factors c.args.kind in
    let f = c.fill_loads in
    let areas = areas_listed s c.args.areas.now f.new.areas f.auto.areas f.ensures.areas in
    let tandems = tandems_listed s c.args.tandems.now f.new.tandems f.auto.tandems f.ensures.tandems in
    let fit = fits _ _ c.requires.fit in
    let long = reach c.args.kerbs (lengths c.args.areas.now c.args.tandems.now c.args.bests.now c.args.owners.now) c.requires.long in
    record {
      wide = fit.wide;
      low = lists_low s (g.S.Surface.lawful c.args.surface.now) fit (each_low c.args.factors c.requires.bounds) areas tandems;
      areas_long = omega (arith, long.areas, f.auto.areas);
      tandems_long = omega (arith, long.tandems, f.auto.tandems);
      bests_long = long.bests;
      owners_long = long.owners;
    }

pub returns : goal.returns
returns g c =
    let s = setting (g.S.Surface.shape c.args.surface.now) c.args.kerbs c.args.factors c.args.kind in
    let f = c.fill_loads in
    let areas = areas_listed s c.args.areas.now f.new.areas f.auto.areas f.ensures.areas in
    let tandems = tandems_listed s c.args.tandems.now f.new.tandems f.auto.tandems f.ensures.tandems in
    let p = c.place_listed-won.ensures in
    record {
      areas = areas;
      tandems = tandems;
      bests = p.filled;
      bests_beyond = p.bests_beyond;
      owners = figured g.W.Worth.kind g.W.Worth.made g.met.W.Worth.counts g.W.Reported.effect g.met.W.Reported.shown s areas tandems p.rated c.winner_figure.ensures;
      owners_beyond = p.owners_beyond;
    }
