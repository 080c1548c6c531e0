use Rattle.std.proofs.Common.{◌<◌, length, rules, drop, sym, refl, ap, ◌≡◌, subst, arith}
use Rattle.std.proofs.lemmas.List.{nil_from_length}
use Rattle.std.proofs.lemmas.Result.{err_from_is_err_and}
use Rattle.surface.specs.declared.fault.SurfaceFault.TheVariants.{Text}
use Rattle.table.specs.declared.fault.TextFault.{TextFault}
use Rattle.readings.specs.Runs.{RunRefused}
use Rattle.readings.specs.Runs as runs
use Rattle.readings.proofs.Underway.{header_text, header_said, begins, goes_on, stops, ends}
use Rattle.table.specs.Lines.{LineRead}
use Rattle.readings.proofs.run.read_run.Goals as goal
use Rattle.readings.proofs.run.read_run.Goals.{In_ok-header, In-loop-here}

pub returns-in_err-check_length : goal.returns-in_err-check_length
returns-in_err-check_length c =
    let p = err_from_is_err_and c.from_residual.result c.from_residual.ensures.1 in
    let e = c.in_err-check_length.ensures in
    rw (p.1, p.2) (subst (λ (t : TextFault). RunRefused c.args.input.now c.args.rows.now (Text t)) (sym e.0) (runs.long e.1), refl)

pub returns-in_err-check_begun : goal.returns-in_err-check_begun
returns-in_err-check_begun c =
    let p = err_from_is_err_and c.from_residual-in_err-check_begun.result c.from_residual-in_err-check_begun.ensures.1 in
    let e = c.in_err-check_begun.ensures in
    rw (p.1, p.2) (subst (λ (t : TextFault). RunRefused c.args.input.now c.args.rows.now (Text t)) (sym e.1) (runs.empty (nil_from_length c.args.input.now e.0)), refl)

-- the header, at the beginning of the input
header : (c : goal.In_ok-header) → LineRead c.args.input.now 0 c.in_ok-header.header
header c = rw c.start-start.ensures at c.in_ok-header.ensures

pub returns-in_err-header : goal.returns-in_err-header
returns-in_err-header c =
    let p = err_from_is_err_and c.from_residual-in_err-header.result c.from_residual-in_err-header.ensures.1 in
    let told = rw c.start-start.ensures at c.in_err-header.ensures in
    rw (p.1, p.2) (header_text c.args.input.now c.args.rows.now c.in_err-header.field-0.0 c.in_ok-check_length.ensures c.in_ok-check_begun.ensures told, refl)

pub read_header-requires : goal.read_header-requires
read_header-requires c =
    let l = header (goal.at.read_header-requires c).In_ok-header in
    ((l.cells, (drop c.in_ok-header.header.end c.args.input.now, (l.line, sym l.count))), l.short)

pub returns-in_err-draft : goal.returns-in_err-draft
returns-in_err-draft c =
    let p = err_from_is_err_and c.from_residual-in_err-draft.result c.from_residual-in_err-draft.ensures.1 in
    let l = header (goal.at.returns-in_err-draft c).In_ok-header in
    let f = c.in_err-draft.ensures l.cells (drop c.in_ok-header.header.end c.args.input.now) l.line (sym l.count) in
    rw (p.1, p.2) (header_said c.args.input.now c.args.rows.now l.short c.in_ok-check_begun.ensures l _ f, refl)

pub loop-here-init : goal.loop-here-init
loop-here-init c =
    let l = header (goal.at.loop-here-init c).In_ok-header in
    let o = c.in_ok-draft.ensures l.cells (drop c.in_ok-header.header.end c.args.input.now) l.line (sym l.count) in
    rw (c.after-here.ensures, c.start-start.ensures) (omega arith, refl, begins c.args.input.now c.args.rows.now l.short c.in_ok-check_begun.ensures l _ o)

-- a byte is left
low : (c : goal.In-loop-here) → c.loop-here.here.at < length c.args.input.now
low c = let same : length c.loop-here.here.input.now ≡ length c.args.input.now = ap length c.loop-here.invariant.1 in search rules

pub returns-in_err-row : goal.returns-in_err-row
returns-in_err-row c =
    let p = err_from_is_err_and c.from_residual-in_err-row.result c.from_residual-in_err-row.ensures.1 in
    let told = rw c.loop-here.invariant.1 at c.in_err-row.ensures.row in
    rw (p.1, p.2) (stops _ _ _ _ _ _ _ c.loop-here.invariant.2 _ c.in_ok-check_length.ensures (low (goal.at.returns-in_err-row c).In-loop-here) told, refl)

pub loop-here-preserved : goal.loop-here-preserved
loop-here-preserved c =
    let told = rw c.loop-here.invariant.1 at c.in_ok-row.ensures.row in
    rw c.after-here-in-loop-here.ensures
    (omega arith, c.loop-here.invariant.1, goes_on _ _ _ _ _ _ _ c.loop-here.invariant.2 _ _ _ (low (goal.at.loop-here-preserved c).In-loop-here) told c.in_ok-row.ensures.layout c.in_ok-row.ensures.filled)

pub returns : goal.returns
returns c =
    let same : length c.loop-here.here.input.now ≡ length c.args.input.now = ap length c.loop-here.invariant.1 in
    ends _ _ _ _ _ _ _ c.loop-here.invariant.2 c.in_ok-check_length.ensures (search rules)
