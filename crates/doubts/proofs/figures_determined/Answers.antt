-- One figure, one winner, one tandem, by the laws of any kinds of worth.
use Rattle.doubts.proofs.figures_determined.Goals as goal
use Rattle.doubts.proofs.Determined.{one_figure, one_winner, same_tandem}

pub returns : goal.returns
returns g c = record {
  figure = one_figure g.W.Worth.kind g.W.Worth.made g.met.W.Worth.counts g.V.Worth.kind g.V.Worth.made g.met.V.Worth.counts;
  winner = one_winner g.W.Worth.kind g.W.Worth.made g.met.W.Worth.lawful g.met.W.Worth.counts;
  tandem = same_tandem;
}
