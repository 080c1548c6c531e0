-- Lanes and parts, both ways.
use Rattle.statement.proofs.lanes_stand.Goals as goal
use Rattle.statement.proofs.Cuts.{lanes_cut}
use Rattle.statement.proofs.Parts.{parts_laid}

pub returns : goal.returns
returns c = record { cut = lanes_cut; laid = parts_laid }
