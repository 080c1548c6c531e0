-- What changes the card.
use Rattle.doubts.proofs.changes_stand.Goals as goal
use Rattle.doubts.proofs.Changes.{changes}

pub returns : goal.returns
returns c = changes
