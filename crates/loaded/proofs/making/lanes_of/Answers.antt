-- The lanes of Table 4.1 fit between the kerbs.
use Rattle.std.proofs.Common.{ap, ◌∙◌}
use Rattle.placing.specs.Placing.{lane_set}
use Rattle.placing.proofs.Sets.{lanes_fit}
use Rattle.loaded.proofs.making.lanes_of.Goals as goal

pub returns : goal.returns
returns c =
    let u = c.up_to.ensures in
    let n = c.lane_count.ensures in
    record {
      numbered = u.numbered ∙ ap lane_set n;
      others = rw n at u.others;
      fit = rw (u.numbered, u.others, n) (lanes_fit c.args.carriageway.width c.requires.wide);
    }
