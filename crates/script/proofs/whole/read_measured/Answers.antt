use Rattle.std.proofs.Common.{refl}
use Rattle.std.proofs.lemmas.Result.{err_from_is_err_and}
use Rattle.script.specs.Scripts as scripts
use Rattle.script.proofs.Telling.{told_weaker}
use Rattle.script.proofs.whole.read_measured.Goals as goal

pub returns-in_err-surface : goal.returns-in_err-surface
returns-in_err-surface c =
    let p = err_from_is_err_and c.from_residual.result c.from_residual.ensures.1 in
    let told = rw (c.preceding.ensures, c.surface_end-end.ensures.input.0) at c.in_err-surface.ensures in
    rw (p.1, p.2) (scripts.run _ _ c.in_err-surface.field-0.0 c.surface_end-end.ensures.ends told.0, refl)

pub returns-in_err-tail : goal.returns-in_err-tail
returns-in_err-tail c =
    let p = err_from_is_err_and c.from_residual-in_err-tail.result c.from_residual-in_err-tail.ensures.1 in
    let run = rw (c.preceding.ensures, c.surface_end-end.ensures.input.0) at c.in_ok-surface.ensures in
    let told = rw c.surface_end-end.ensures.input.0 at c.in_err-tail.ensures in
    rw (p.1, p.2) (told_weaker _ _ (λ f s. scripts.tail _ _ _ _ _ _ _ f c.surface_end-end.ensures.ends run s) c.in_err-tail.field-0.0 told, refl)

pub returns : goal.returns
returns c =
    let run = rw (c.preceding.ensures, c.surface_end-end.ensures.input.0) at c.in_ok-surface.ensures in
    let told = rw c.surface_end-end.ensures.input.0 at c.in_ok-tail.ensures in
    record { end = _; next = _; ends = c.surface_end-end.ensures.ends; run = run; tail = told }
