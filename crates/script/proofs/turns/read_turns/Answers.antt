-- Each turn reads one word more.
use Rattle.std.proofs.Common.{◌≡◌, rules, ◌<◌, length, drop, refl, arith}
use Rattle.table.specs.Lines.{text_at}
use Rattle.script.specs.Turns.{unturned}
use Rattle.script.proofs.Turning.{turning_none, turning_more, turning_stops, turning_done}
use Rattle.script.proofs.turns.read_turns.Goals as goal

pub loop-i-init : goal.loop-i-init
loop-i-init c = λ ds ys l h. let none : c.default-turns.result ≡ unturned = search rules in turning_none ds ys (text_at c.args.here) _ none l

pub returns-in_err-word : goal.returns-in_err-word
returns-in_err-word c = λ ds ys l h.
    let low : c.loop-i.i < length ds = omega arith in
    absurd (c.in_err-word.ensures.split (drop c.loop-i.i ds) ys ((c.loop-i.invariant ds ys l h).line low))

pub returns-in_default : goal.returns-in_default
returns-in_default c = λ ds ys l h.
    let low : c.loop-i.i < length ds = omega arith in
    let g = c.loop-i.invariant ds ys l h in
    rw c.fault.ensures
    (turning_stops ds ys (text_at c.loop-i.rest) c.loop-i.i c.loop-i.turns g low (text_at c.in_ok-word.word.rest) (c.in_ok-word.ensures.split (drop c.loop-i.i ds) ys (g.line low)) c.args.here.record _ refl c.in_default.ensures)

pub loop-i-preserved : goal.loop-i-preserved
loop-i-preserved c = λ ds ys l h.
    let low : c.loop-i.i < length ds = omega arith in
    let g = c.loop-i.invariant ds ys l h in
    turning_more ds ys (text_at c.loop-i.rest) c.loop-i.i c.loop-i.turns g low (text_at c.in_ok-word.word.rest) (c.in_ok-word.ensures.split (drop c.loop-i.i ds) ys (g.line low)) c.in-Some.more c.in-Some.ensures

pub returns : goal.returns
returns c = λ ds ys l h. turning_done ds ys (text_at c.loop-i.rest) c.loop-i.i c.loop-i.turns (omega arith) (c.loop-i.invariant ds ys l h)
