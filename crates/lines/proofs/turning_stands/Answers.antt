use Rattle.lines.proofs.Areas.{area_sides, area_ends}
use Rattle.lines.proofs.Lanes.{tandem_sides, tandem_ends}
use Rattle.lines.proofs.turning_stands.Goals as goal

pub returns : goal.returns
returns c = record { area_sides = area_sides; area_ends = area_ends; tandem_sides = tandem_sides; tandem_ends = tandem_ends }
