-- The field at the front of what is left of the input is the field at that place.
use Rattle.std.proofs.Common.{◌+◌, ◌-◌, ◌≤◌, length, drop, sym, refl, ap, subst, arith, length-drop}
use Rattle.table.specs.Cells.{cell_of, written, Stands, InFront, MalformedAt}
use Rattle.table.proofs.Fronts.{stands_at, width_le}
use Rattle.table.proofs.cursor.Cursor.field.Goals as goal
use Rattle.table.proofs.cursor.Cursor.field.Goals.{In-Some}

-- the text that was found stands here, and fits into what is left of the input
found : (c : goal.In-Some) → InFront (cell_of c.in-Some.text) (drop c.args.self.at c.args.self.input.now)
found c = subst (InFront (cell_of c.in-Some.text)) c.rest.ensures c.in-Some.ensures

room : (c : goal.In-Some) → length (written (cell_of c.in-Some.text)) ≤ length c.args.self.input.now - c.args.self.at
room c = omega (arith, width_le (found c), length-drop c.args.self.at c.args.self.input.now)

pub returns : goal.returns
returns c =
    let w = c.width.ensures in
    let r = room (goal.at.returns c).In-Some in
    record {
      stands = subst (λ n. Stands (cell_of c.in-Some.text) (drop c.args.self.at c.args.self.input.now) (drop (c.args.self.at + n) c.args.self.input.now)) (sym w) (stands_at c.args.self.input.now c.args.self.at _ (found (goal.at.returns c).In-Some));
      in_record = refl;
      in_field = refl;
      width = ap (λ n. c.args.self.at + n) w;
      within = λ l. omega arith;
    }

pub returns-in_default : goal.returns-in_default
returns-in_default c = (c.fault.ensures, subst MalformedAt c.rest.ensures c.in_default.ensures)
