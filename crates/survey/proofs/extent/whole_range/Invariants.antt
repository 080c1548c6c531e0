use Rattle.survey.specs.Extents.{Spans, On}
use Rattle.survey.proofs.extent.whole_range.Given as goal

abbrev pub invariant-loop-j : goal.invariant-loop-j
invariant-loop-j g l = Spans (On l.j (g.S.Surface.shape l.surface).stations) (λ x. (g.S.Surface.shape l.surface).ordinate x.slice x.station) l.range
