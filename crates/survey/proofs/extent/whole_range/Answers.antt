use Rattle.survey.proofs.Ranges.{slice_first, slice_more}
use Rattle.survey.proofs.extent.whole_range.Goals as goal

pub loop-j-init : goal.loop-j-init
loop-j-init g c = let s = g.S.Surface.shape c.args.surface.now in slice_first s.ordinate s.stations _ c.slice_range-range.ensures

pub loop-j-preserved : goal.loop-j-preserved
loop-j-preserved g c = let s = g.S.Surface.shape c.args.surface.now in slice_more s.ordinate s.stations c.loop-j.j _ _ _ c.loop-j.invariant c.slice_range.ensures c.with-range.ensures
