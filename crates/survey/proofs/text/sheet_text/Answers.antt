use Rattle.std.proofs.lemmas.Result.{IfOk-weaker}
use Rattle.survey.specs.Texts as texts
use Rattle.survey.proofs.text.sheet_text.Goals as goal

pub returns-in-Ok : goal.returns-in-Ok
returns-in-Ok c = IfOk-weaker c.extent_lines.result _ _ (λ s e. texts.extent c.in-Ok.extent c.in-Ok.ensures e) c.extent_lines.ensures

pub returns-in-Err : goal.returns-in-Err
returns-in-Err c = IfOk-weaker c.refusal_line.result _ _ (λ s e. texts.refusal c.in-Err.fault c.in-Err.ensures e) c.refusal_line.ensures
