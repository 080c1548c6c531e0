use Rattle.std.proofs.lemmas.Result.{err_from_is_err_and}
use Rattle.rated.specs.Ratings as ratings
use Rattle.rated.proofs.Tables.{rated}
use Rattle.rated.proofs.rate.rate_table.Goals as goal

pub returns-in_err-draft : goal.returns-in_err-draft
returns-in_err-draft c =
    let p = err_from_is_err_and c.from_residual.result c.from_residual.ensures.1 in
    rw (p.1, p.2) (ratings.reading _ c.in_err-draft.ensures.0)

pub returns : goal.returns
returns c = rated c.args.input.now _ _ c.in_ok-draft.draft c.in_ok-draft.ensures c.rate_sealed.result c.rate_sealed.ensures
