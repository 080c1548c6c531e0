use Rattle.lines.proofs.Areas.{is_area}
use Rattle.lines.proofs.Exists.{tandem_exists}
use Rattle.lines.proofs.Unique.{one_tandem, positive}
use Rattle.lines.proofs.lines_stand.Goals as goal

pub returns : goal.returns
returns c = record { areas = is_area; unique = one_tandem; exists = tandem_exists; positive = positive }
