use Rattle.std.proofs.Common.{◌<◌, ◌≤◌, length, sym, refl, rules}
use Rattle.std.proofs.lemmas.List.{drop_all}
use Rattle.std.proofs.lemmas.Result.{err_from_is_err_and}
use Rattle.script.specs.Tails as tails
use Rattle.script.proofs.Following.{first_record, open_broken}
use Rattle.script.proofs.tail.read_opened.Goals as goal
use Rattle.script.proofs.tail.read_opened.Goals.{Else-is_at_end}

-- a byte is left
low : (c : goal.Else-is_at_end) → c.args.here.cursor.at < length c.args.here.cursor.input.now
low c = search rules

pub returns-then-is_at_end : goal.returns-then-is_at_end
returns-then-is_at_end c =
    let none : length c.args.here.cursor.input.now ≤ c.args.here.cursor.at = search rules in
    rw c.fault.ensures (tails.missing (drop_all c.args.here.cursor.at c.args.here.cursor.input.now none))

pub returns-in_err-line : goal.returns-in_err-line
returns-in_err-line c =
    let p = err_from_is_err_and c.from_residual.result c.from_residual.ensures.1 in
    rw (p.1, p.2) (open_broken c.args.here.cursor.input.now c.args.here.cursor.at c.args.here.cursor.record c.in_err-line.field-0.0 c.args.here.short (low (goal.at.returns-in_err-line c).Else-is_at_end) c.in_err-line.ensures)

pub returns-in_err-opening : goal.returns-in_err-opening
returns-in_err-opening c =
    let p = err_from_is_err_and c.from_residual-in_err-opening.result c.from_residual-in_err-opening.ensures.1 in
    let l = c.in_ok-line.ensures in
    rw (p.1, p.2) (tails.unopened l.cells _ c.in_err-opening.field-0.0 (first_record (low (goal.at.returns-in_err-opening c).Else-is_at_end) l).some l.line (c.in_err-opening.ensures l.cells _ l.line (sym l.count)))

pub returns : goal.returns
returns c =
    let l = c.in_ok-line.ensures in
    rw c.after.ensures (record { cells = l.cells; first = first_record (low (goal.at.returns c).Else-is_at_end) l; opens = c.in_ok-opening.ensures l.cells _ l.line (sym l.count) }, refl)
