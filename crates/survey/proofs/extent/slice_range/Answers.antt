use Rattle.std.proofs.Common.{arith}
use borrow.Author.Differences.{ints}
use Rattle.survey.proofs.Ranges.{station_more}
use Rattle.survey.proofs.extent.slice_range.Goals as goal

pub loop-k-preserved : goal.loop-k-preserved
loop-k-preserved g c =
    let y = (g.S.Surface.shape c.args.surface.now).ordinate c.args.j in
    let v = c.ordinate_of-in-loop-k.ensures.value in
    station_more y c.loop-k.k _ _ _ c.loop-k.invariant (omega (arith, ints)) (omega (arith, ints)) c.with-range.ensures
