use Rattle.std.proofs.Common.{◌≡◌, ◌<◌, ◌≤◌, length, arith, rules}
use Rattle.std.proofs.lemmas.Result.{err_from_is_err_and}
use Rattle.script.specs.Turns.{unturned}
use Rattle.script.proofs.Following.{fields_few, words_count, turned_none, turned_broken, turned_not, turned_stops, turned_so}
use Rattle.script.proofs.tail.read_turned.Goals as goal
use Rattle.script.proofs.tail.read_turned.Goals.{Else-is_at_end}

-- a byte is left
low : (c : goal.Else-is_at_end) → c.args.here.cursor.at < length c.args.here.cursor.input.now
low c = search rules

pub returns-then-is_at_end : goal.returns-then-is_at_end
returns-then-is_at_end c =
    let none : length c.args.here.cursor.input.now ≤ c.args.here.cursor.at = search rules in
    let is : c.default.result ≡ unturned = search rules in
    (turned_none c.args.here.cursor.input.now c.args.here.cursor.at c.args.here.cursor.record c.default.result is none, omega arith)

pub returns-in_err-line : goal.returns-in_err-line
returns-in_err-line c =
    let p = err_from_is_err_and c.from_residual.result c.from_residual.ensures.1 in
    rw (p.1, p.2) (turned_broken c.args.here.cursor.input.now c.args.here.cursor.at c.args.here.cursor.record c.in_err-line.field-0.0 c.args.here.short (low (goal.at.returns-in_err-line c).Else-is_at_end) c.in_err-line.ensures)

pub returns-in_err-word : goal.returns-in_err-word
returns-in_err-word c = let l = c.in_ok-line.ensures in absurd (c.in_err-word.ensures.split l.cells _ l.line)

pub returns-then-not-is_word : goal.returns-then-not-is_word
returns-then-not-is_word c =
    let l = c.in_ok-line.ensures in
    let s = c.in_ok-word.ensures.split l.cells _ l.line in
    let is : c.default.result ≡ unturned = search rules in
    (turned_not c.args.here.cursor.input.now c.args.here.cursor.at c.args.here.cursor.record l s c.default.result is c.if-not-is_word.true c.is_word.ensures, omega arith)

pub read_turns-requires : goal.read_turns-requires
read_turns-requires c = omega (arith, fields_few c.args.here.short c.in_ok-line.ensures)

pub returns-in_err-turns : goal.returns-in_err-turns
returns-in_err-turns c =
    let p = err_from_is_err_and c.from_residual-in_err-turns.result c.from_residual-in_err-turns.ensures.1 in
    let l = c.in_ok-line.ensures in
    let s = c.in_ok-word.ensures.split l.cells _ l.line in
    let told = rw c.in_ok-word.ensures.rest at c.in_err-turns.ensures in
    let m = told s.others _ s.line (words_count c.args.here.cursor.input.now c.args.here.cursor.at c.args.here.cursor.record l s) in
    rw (p.1, p.2) (turned_stops c.args.here.cursor.input.now c.args.here.cursor.at c.args.here.cursor.record l s c.in_err-turns.field-0.0 (c.is_word.ensures.0 c.if-not-is_word.false) m)

pub returns : goal.returns
returns c =
    let l = c.in_ok-line.ensures in
    let s = c.in_ok-word.ensures.split l.cells _ l.line in
    let t = c.in_ok-turns.ensures s.others _ s.line (words_count c.args.here.cursor.input.now c.args.here.cursor.at c.args.here.cursor.record l s) in
    rw c.after.ensures (turned_so c.args.here.cursor.input.now c.args.here.cursor.at c.args.here.cursor.record l s c.in_ok-turns.turns (low (goal.at.returns c).Else-is_at_end) (c.is_word.ensures.0 c.if-not-is_word.false) t, omega arith)
