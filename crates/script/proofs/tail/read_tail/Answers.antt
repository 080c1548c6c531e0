use Rattle.std.proofs.lemmas.Result.{err_from_is_err_and}
use Rattle.script.specs.Tails as tails
use Rattle.script.proofs.Telling.{told_weaker}
use Rattle.script.proofs.tail.read_tail.Goals as goal

pub returns-in_err-turned : goal.returns-in_err-turned
returns-in_err-turned c =
    let p = err_from_is_err_and c.from_residual.result c.from_residual.ensures.1 in
    rw (p.1, p.2) (tails.turns c.in_err-turned.field-0.0 c.in_err-turned.ensures)

pub returns-in_err-opened : goal.returns-in_err-opened
returns-in_err-opened c =
    let p = err_from_is_err_and c.from_residual-in_err-opened.result c.from_residual-in_err-opened.ensures.1 in
    rw (p.1, p.2) (tails.opening _ _ _ c.in_err-opened.field-0.0 c.in_ok-turned.ensures.0 c.in_err-opened.ensures)

pub returns-in_err-calls : goal.returns-in_err-calls
returns-in_err-calls c =
    let p = err_from_is_err_and c.from_residual-in_err-calls.result c.from_residual-in_err-calls.ensures.1 in
    let told = rw c.in_ok-opened.ensures.1 at c.in_err-calls.ensures in
    rw (p.1, p.2) (told_weaker _ _ (λ f st. tails.call _ _ _ _ _ _ f c.in_ok-turned.ensures.0 c.in_ok-opened.ensures.0 st) c.in_err-calls.field-0.0 told)
