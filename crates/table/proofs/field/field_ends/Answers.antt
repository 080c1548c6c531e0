-- Each pattern that is matched is one of the ways in which a field may end.
use Rattle.std.proofs.Common.{refl, rules}
use Rattle.table.proofs.Turns.{ends_comma, ends_line}
use Rattle.table.proofs.field.field_ends.Goals as goal

pub returns-in-empty-2 : goal.returns-in-empty-2
returns-in-empty-2 c = (λ _. ends_comma c.args.rest.now (search rules) (search rules), λ _. refl)

pub returns-in-empty-3 : goal.returns-in-empty-3
returns-in-empty-3 c = (λ _. ends_comma c.args.rest.now (search rules) (search rules), λ _. refl)

pub returns-in-empty-4 : goal.returns-in-empty-4
returns-in-empty-4 c = (λ _. ends_line c.args.rest.now (search rules) (search rules) (search rules), λ _. refl)
