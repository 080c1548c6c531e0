use Rattle.std.proofs.Common.{refl}
use Rattle.model.proofs.Tables.{table, fit, lane_range, inside, mirrored}
use Rattle.model.proofs.facts.lanes_stand.Goals as goal

pub returns : goal.returns
returns c = record { table = table; fit = fit; range = lane_range; inside = inside; mirrored = mirrored; odd = refl }
