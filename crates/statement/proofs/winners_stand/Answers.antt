-- The winner, by the laws of any kind of worth.
use Rattle.statement.proofs.winners_stand.Goals as goal
use Rattle.statement.proofs.Wins.{chosen_wins, winner_chosen, winner_once}

pub returns : goal.returns
returns g c = record {
  wins = chosen_wins g.W.Worth.kind g.W.Worth.made g.met.W.Worth.counts;
  chosen = winner_chosen g.W.Worth.kind g.W.Worth.made g.met.W.Worth.counts;
  once = winner_once g.W.Worth.kind g.W.Worth.made g.met.W.Worth.lawful g.met.W.Worth.counts;
}
