-- The first byte tells whether the field is quoted.
use Rattle.std.proofs.Common.{ℕ, ◌-◌, List, length, take, drop, sym, subst, rules, MatchOption}
use Rattle.table.specs.Cells.{cell_of, InFront, MalformedAt}
use Rattle.table.proofs.Turns.{begins_with}
use Rattle.table.proofs.Fronts.{either_way, only_quoted, only_plain}
use Rattle.table.proofs.field.front_text.Goals as goal
use Rattle.table.proofs.field.front_text.Goals.{in_default-via-then-rest-lt1, in_default-via-else-rest-lt1+in_default-1}

pub returns-in-34 : goal.returns-in-34
returns-in-34 c =
    let xs = c.args.rest.now in
    let inner : List ℕ = take (length xs - 1) (drop 1 xs) in
    subst (λ l. MatchOption c.quoted_text.result (MalformedAt l) (λ t. InFront (cell_of t) l))
    (sym (begins_with 34 xs c.in-34.len_at_least (search rules)))
    (either_way c.quoted_text.result c.quoted_text.ensures (only_quoted inner) (λ t h. h))

pub returns-in_default : goal.returns-in_default
returns-in_default c =
    let xs = c.args.rest.now in
    either_way c.plain_text.result c.plain_text.ensures
    (only_plain xs (λ some quote. elim c.in_default.branch [
      | in_default-via-then-rest-lt1 w ↦ search rules
      | in_default-via-else-rest-lt1+in_default-1 w ↦ search rules
    ]))
    (λ t h. h)
