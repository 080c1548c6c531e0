-- A figure from the best placement.
use Rattle.statement.proofs.figures_stand.Goals as goal
use Rattle.statement.proofs.Low.{lists_low}
use Rattle.statement.proofs.Figures.{lists_count, rated_serves}

pub returns : goal.returns
returns g c = record { lists = lists_count; low = lists_low; figure = rated_serves g.W.Worth.kind g.W.Worth.made g.met.W.Worth.counts }
