-- The bare bytes are the field, if a field may end after them, and no other bare bytes are.
use Rattle.std.proofs.Common.{sym, subst}
use Rattle.std.proofs.lemmas.List.{take_rest}
use Rattle.table.specs.Cells.{Ends}
use Rattle.table.proofs.Fronts.{plain_stands, plain_none, some_if}
use Rattle.table.proofs.field.plain_text.Goals as goal

pub returns : goal.returns
returns c =
    let xs = c.args.rest.now in
    let n = c.bare_length-end.result in
    let found = c.bare_length-end.ensures in
    let rest = take_rest xs n in
    rw c.then_some.ensures
    (some_if _ _ _ _
    (λ e. plain_stands xs n found.within found.bare (subst Ends rest (c.field_ends.ensures.0 e)))
    (λ e. plain_none xs n found.bare found.stops (λ ends. e (c.field_ends.ensures.1 (subst Ends (sym rest) ends)))))
