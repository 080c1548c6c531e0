use Rattle.scripted.specs.Scripts as scripts
use Rattle.script.specs.Scripts.{MeasuredRefused}
use Rattle.readings.specs.Blank.{blank_rows}
use Rattle.scripted.proofs.Judged.{sealed_ran, unread_ran}
use Rattle.scripted.proofs.whole.run_measured.Goals as goal

pub returns-in-Ok : goal.returns-in-Ok
returns-in-Ok c = sealed_ran c.args.script.bytes.now c.args.script.short _ _ _ _ _ _ _ _ _ _ _ c.requires c.in-Ok.ensures c.run_sealed.ensures

pub returns-in-Err : goal.returns-in-Err
returns-in-Err c =
    unread_ran c.args.script.bytes.now (MeasuredRefused c.args.script.bytes.now blank_rows) (λ f p. scripts.measured f c.args.script.short c.requires p) c.in-Err.fault _ _ c.in-Err.ensures.0 c.unread.ensures
