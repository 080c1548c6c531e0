-- The starred decks, together.
use Rattle.decks.proofs.decks_stand.Goals as goal
use Rattle.decks.proofs.Decks.{decks}

pub returns : goal.returns
returns c = decks
