use Rattle.std.proofs.Common.{◌∙◌, refl, arith}
use Rattle.std.proofs.lemmas.Result.{err_from_is_err_and}
use Rattle.table.specs.Numbers.{Counts}
use Rattle.records.specs.Numbers.{Written}
use Rattle.records.proofs.Progress.{taken_whole, written_length}
use Rattle.script.proofs.calls.read_lengths.Goals as goal

pub returns-in_err-numbers : goal.returns-in_err-numbers
returns-in_err-numbers c = λ ds ys l h.
    let p = err_from_is_err_and c.from_residual.result c.from_residual.ensures.1 in
    rw (p.1, p.2) (c.in_err-numbers.ensures.numbers ds ys l h)

pub returns : goal.returns
returns c = λ ds ys l h.
    let t = taken_whole (c.in_ok-numbers.ensures.numbers ds ys l h) (omega arith) in
    let is = rw c.unwrap.ensures at c.into_inner.ensures.ok in
    let w : Written Counts ds c.unwrap.result = rw is t in
    record { numbers = c.unwrap.result; written = w; count = written_length Counts ds c.unwrap.result w ∙ h; lengths = refl }
