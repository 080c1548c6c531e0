use Rattle.std.proofs.Common.{sym, ◌∙◌}
use Rattle.std.proofs.lemmas.Result.{err_from_is_err_and}
use Rattle.surface.proofs.Verdicts.{each_bad, each_on}
use Rattle.surface.proofs.each.check_each.Goals as goal

pub returns-in_err-check : goal.returns-in_err-check
returns-in_err-check g c = λ f h.
    let p = err_from_is_err_and c.from_residual.result c.from_residual.ensures.1 in
    rw (p.1, p.2) (sym (each_bad f c.loop-k.k c.args.count _ c.loop-k-test.true (sym (h c.loop-k.k _ c.loop-k-test.true c.in_err-check.ensures))) ∙ c.loop-k.invariant f h)

pub loop-k-preserved : goal.loop-k-preserved
loop-k-preserved g c = λ f h.
    sym (each_on f c.loop-k.k c.args.count _ c.loop-k-test.true (sym (h c.loop-k.k _ c.loop-k-test.true c.in_ok-check.ensures))) ∙ c.loop-k.invariant f h
