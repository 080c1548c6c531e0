use Rattle.survey.specs.Extents.{Spans, Station}
use Rattle.survey.proofs.extent.slice_range.Given as goal

abbrev pub invariant-loop-k : goal.invariant-loop-k
invariant-loop-k g l = Spans (Station l.k) ((g.S.Surface.shape l.surface).ordinate l.j) l.range
