-- The bytes before the closing quote are the field, if a field may end after it, and no others are.
use Rattle.std.proofs.Common.{◌+◌, sym, subst}
use Rattle.std.proofs.lemmas.List.{take_rest}
use Rattle.table.specs.Cells.{Ends}
use Rattle.table.proofs.Fronts.{quoted_stands, quoted_none, quoted_open, some_if}
use Rattle.table.proofs.field.quoted_text.Goals as goal

pub returns-in_err-close : goal.returns-in_err-close
returns-in_err-close c = rw c.from_residual.ensures (quoted_open c.args.inner.now c.in_err-close.ensures)

pub returns : goal.returns
returns c =
    let xs = c.args.inner.now in
    let n = c.in_ok-close.close in
    let closed = c.in_ok-close.ensures in
    let rest = take_rest xs (n + 1) in
    rw c.then_some.ensures
    (some_if _ _ _ _
    (λ e. quoted_stands xs n closed (subst Ends rest (c.field_ends.ensures.0 e)))
    (λ e. quoted_none xs n closed (λ ends. e (c.field_ends.ensures.1 (subst Ends (sym rest) ends)))))
