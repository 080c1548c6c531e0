use Rattle.table.proofs.Tables.{reading_rejoins}
use Rattle.table.proofs.unique.reading_rejoins.Goals as goal

pub returns : goal.returns
returns c = reading_rejoins
