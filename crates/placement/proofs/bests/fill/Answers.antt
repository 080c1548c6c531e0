-- One entry more, from the right.
use Rattle.std.proofs.Common.{◌+◌, ◌-◌, ◌*◌, ◌∙◌, arith}
use Rattle.std.proofs.lemmas.List.{drop-set-lt}
use Rattle.placing.proofs.Steps.{one_entry}
use Rattle.placement.proofs.bests.fill.Goals as goal

pub loop-i-preserved : goal.loop-i-preserved
loop-i-preserved g c =
    let R = g.P.Parts.road c.args.parts.now in
    let n = c.loop-i.i - 1 in (
      one_entry g.W.Worth.kind R c.loop-i.bests n c.loop-i.i _ (omega arith) (omega arith) c.loop-i.invariant.0 c.best-best.ensures,
      drop-set-lt (24 * (R.slices + 1)) c.loop-i.bests n _ (omega arith) ∙ c.loop-i.invariant.1,
    )
