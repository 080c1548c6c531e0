use Rattle.std.proofs.Common.{◌≡◌, sym, refl, ap, ◌∙◌, subst}
use Rattle.surface.specs.declared.fault.SurfaceFault.TheVariants.{Text}
use Rattle.script.specs.declared.fault.ScriptFault.TheVariants.{Told}
use Rattle.scripted.specs.Scripts.{ScriptRefused}
use Rattle.scripted.specs.Scripts as scripts
use Rattle.scripted.proofs.Judged.{unread_ran}
use Rattle.scripted.proofs.whole.run_script.Goals as goal

pub returns-in-Err : goal.returns-in-Err
returns-in-Err c =
    let e = c.in-Err.ensures in
    let f = c.in-Err.fault in
    unread_ran c.args.input.now (λ g. g ≡ Text f) (λ g is. subst (ScriptRefused c.args.input.now) (sym (is ∙ ap Text e.0)) (scripts.long e.1)) (Told (Text f)) _ _ refl (rw c.into.ensures at c.unread.ensures)
