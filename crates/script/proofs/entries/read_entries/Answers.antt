-- Each turn reads one record more.
use Rattle.std.proofs.Common.{◌≡◌, ◌<◌, length, sym, refl, ap, arith, rules}
use Rattle.std.proofs.lemmas.Result.{err_from_is_err_and}
use Rattle.table.specs.Lines.{LineRead}
use Rattle.table.proofs.SecondPass.{read_advances}
use Rattle.script.proofs.Reading.{reading_none, reading_more, reading_broken, reading_said_none}
use Rattle.script.proofs.entries.read_entries.Given.{Over}
use Rattle.script.proofs.entries.read_entries.Goals as goal
use Rattle.script.proofs.entries.read_entries.Goals.{In-loop-here, In_ok-line}

-- a byte is left
low : (g : Over) (c : goal.In-loop-here g) → c.loop-here.here.cursor.at < length c.args.from.cursor.input.now
low g c = let same : length c.loop-here.here.cursor.input.now ≡ length c.args.from.cursor.input.now = ap length c.loop-here.invariant.0 in search rules

-- the record that begins there
line : (g : Over) (c : goal.In_ok-line g) → LineRead c.args.from.cursor.input.now c.loop-here.here.cursor.at c.in_ok-line.line
line g c = rw c.loop-here.invariant.0 at c.in_ok-line.ensures

pub loop-here-init : goal.loop-here-init
loop-here-init g c =
    rw c.new-entries.ensures.items
    (refl, reading_none g.E.Entry.said g.E.Entry.unsaid c.args.from.cursor.input.now c.args.from.cursor.at c.args.from.cursor.record c.args.from.within)

pub returns-in_err-line : goal.returns-in_err-line
returns-in_err-line g c =
    let p = err_from_is_err_and c.from_residual.result c.from_residual.ensures.1 in
    let told = rw c.loop-here.invariant.0 at c.in_err-line.ensures in
    rw (p.1, p.2) (reading_broken g.E.Entry.said g.E.Entry.unsaid c.args.from.cursor.input.now c.args.from.cursor.at c.args.from.cursor.record _ c.loop-here.here.cursor.at c.loop-here.here.cursor.record c.loop-here.invariant.1 c.in_err-line.field-0.0 c.args.from.short (low g (goal.at.returns-in_err-line g c).In-loop-here) told)

pub returns-in_err-read : goal.returns-in_err-read
returns-in_err-read g c =
    let p = err_from_is_err_and c.from_residual-in_err-read.result c.from_residual-in_err-read.ensures.1 in
    let l = line g (goal.at.returns-in_err-read g c).In_ok-line in
    let said = rw c.loop-here.invariant.0 at c.in_err-read.ensures in
    rw (p.1, p.2) (reading_said_none g.E.Entry.said g.E.Entry.unsaid c.args.from.cursor.input.now c.args.from.cursor.at c.args.from.cursor.record _ c.loop-here.here.cursor.at c.loop-here.here.cursor.record c.loop-here.invariant.1 c.in_err-read.field-0.0 (low g (goal.at.returns-in_err-read g c).In-loop-here) l (said l.cells _ l.line (sym l.count)))

pub loop-here-smaller : goal.loop-here-smaller
loop-here-smaller g c =
    let some = low g (goal.at.loop-here-smaller g c).In-loop-here in
    let on = read_advances (line g (goal.at.loop-here-smaller g c).In_ok-line) some in
    rw c.after-here.ensures (omega arith)

pub loop-here-preserved : goal.loop-here-preserved
loop-here-preserved g c =
    let l = line g (goal.at.loop-here-preserved g c).In_ok-line in
    let said = rw c.loop-here.invariant.0 at c.in_ok-read.ensures in
    let more = reading_more g.E.Entry.said g.E.Entry.unsaid c.args.from.cursor.input.now c.args.from.cursor.at c.args.from.cursor.record _ c.loop-here.here.cursor.at c.loop-here.here.cursor.record c.loop-here.invariant.1 c.in_ok-read.field-0 (low g (goal.at.loop-here-preserved g c).In-loop-here) l (said l.cells _ l.line (sym l.count)) in
    rw (c.after-here.ensures, c.in_ok-push.ensures.items) (c.loop-here.invariant.0, more)
