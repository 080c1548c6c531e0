use Rattle.std.proofs.Common.{arith}
use Rattle.std.proofs.lemmas.Result.{err_from_is_err_and}
use Rattle.records.proofs.Progress.{taken_whole}
use Rattle.script.proofs.rest.read_naturals.Goals as goal

pub returns-in_err-numbers : goal.returns-in_err-numbers
returns-in_err-numbers g c = λ ds ys l n.
    let p = err_from_is_err_and c.from_residual.result c.from_residual.ensures.1 in
    rw (p.1, p.2) (c.in_err-numbers.ensures.numbers ds ys l n)

pub returns : goal.returns
returns g c = λ ds ys l n.
    let t = taken_whole (c.in_ok-numbers.ensures.numbers ds ys l n) (omega arith) in
    let is = rw c.unwrap.ensures at c.into_inner.ensures.ok in
    rw is t
