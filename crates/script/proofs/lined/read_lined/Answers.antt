use Rattle.std.proofs.Common.{sym}
use Rattle.std.proofs.lemmas.Result.{err_from_is_err_and}
use Rattle.table.specs.Lines.{LineRead}
use Rattle.script.specs.Edges as edges
use Rattle.script.proofs.Following.{edge_broken, edge_begins}
use Rattle.script.proofs.Telling.{told_weaker}
use Rattle.script.proofs.lined.read_lined.Goals as goal
use Rattle.script.proofs.lined.read_lined.Goals.{In_ok-header}

-- the header, at the beginning of the part
header : (c : goal.In_ok-header) → LineRead c.args.part.bytes.now 0 c.in_ok-header.header
header c = rw c.start-start.ensures at c.in_ok-header.ensures

pub returns-in_err-header : goal.returns-in_err-header
returns-in_err-header c =
    let p = err_from_is_err_and c.from_residual.result c.from_residual.ensures.1 in
    let told = rw c.start-start.ensures at c.in_err-header.ensures in
    rw (p.1, p.2) (edge_broken c.args.part.bytes.now c.in_err-header.field-0.0 c.args.part.short told)

pub returns-in_err-edges : goal.returns-in_err-edges
returns-in_err-edges c =
    let p = err_from_is_err_and c.from_residual-in_err-edges.result c.from_residual-in_err-edges.ensures.1 in
    let l = header (goal.at.returns-in_err-edges c).In_ok-header in
    rw (p.1, p.2) (edges.header l.cells _ c.in_err-edges.field-0.0 l.line (c.in_err-edges.ensures l.cells _ l.line (sym l.count)))

pub returns-in_err-line : goal.returns-in_err-line
returns-in_err-line c =
    let p = err_from_is_err_and c.from_residual-in_err-line.result c.from_residual-in_err-line.ensures.1 in
    let l = header (goal.at.returns-in_err-line c).In_ok-header in
    let begun = edge_begins c.args.part.bytes.now l _ _ _ (c.in_ok-edges.ensures l.cells _ l.line (sym l.count)) in
    let told = rw (c.after.ensures, c.start-start.ensures) at c.in_err-line.ensures in
    rw (p.1, p.2) (told_weaker _ _ (λ f st. edges.row _ _ _ _ f begun st) c.in_err-line.field-0.0 told)

pub returns : goal.returns
returns c =
    let l = header (goal.at.returns c).In_ok-header in
    let told = rw (c.after.ensures, c.start-start.ensures) at c.in_ok-line.ensures in
    record { rest = _; begins = edge_begins c.args.part.bytes.now l _ _ _ (c.in_ok-edges.ensures l.cells _ l.line (sym l.count)); rows = told }
