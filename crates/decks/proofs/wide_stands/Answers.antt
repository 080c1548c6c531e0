-- The wide deck.
use Rattle.decks.proofs.wide_stands.Goals as goal
use Rattle.decks.proofs.Decks.{wide}

pub returns : goal.returns
returns c = wide
