use Rattle.std.proofs.lemmas.Result.{err_from_is_err_and}
use Rattle.survey.specs.Surveys as surveys
use Rattle.survey.proofs.Sealing.{granted}
use Rattle.survey.proofs.survey.survey_run.Goals as goal

pub returns-in_err-draft : goal.returns-in_err-draft
returns-in_err-draft c =
    let p = err_from_is_err_and c.from_residual.result c.from_residual.ensures.1 in
    rw (p.1, p.2) (surveys.reading c.in_err-draft.ensures.0)

pub returns : goal.returns
returns c = granted c.args.input.now _ c.in_ok-draft.draft c.in_ok-draft.ensures c.sealed_extent.result c.sealed_extent.ensures
