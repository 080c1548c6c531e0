use Rattle.scripted.specs.Scripts as scripts
use Rattle.script.specs.Scripts.{LinedRefused}
use Rattle.scripted.proofs.Judged.{lined_ran, unread_ran}
use Rattle.scripted.proofs.whole.run_edge.Goals as goal

pub returns-in-Ok : goal.returns-in-Ok
returns-in-Ok c = lined_ran c.args.script.bytes.now c.args.script.short _ _ _ _ _ _ _ _ _ _ c.requires c.in-Ok.ensures c.run_lined.ensures

pub returns-in-Err : goal.returns-in-Err
returns-in-Err c =
    unread_ran c.args.script.bytes.now (LinedRefused c.args.script.bytes.now) (λ f p. scripts.lined f c.args.script.short c.requires p) c.in-Err.fault _ _ c.in-Err.ensures c.unread.ensures
