use Rattle.script.proofs.Saying.{others_long, said_by_numbers, said_by_rating, unsaid_word}
use Rattle.script.proofs.calls.CallEntry.read.Goals as goal

pub returns-in_err-word : goal.returns-in_err-word
returns-in_err-word c = λ cs ys l h. absurd (c.in_err-word.ensures.split cs ys l)

pub returns-in-Some-Sets : goal.returns-in-Some-Sets
returns-in-Some-Sets c = λ cs ys l h.
    let s = c.in_ok-word.ensures.split cs ys l in
    let told = rw c.in_ok-word.ensures.rest at c.read.ensures in
    said_by_numbers s c.in-Some-Sets.setter c.args.here.record c.read.result (rw c.in-Some-Sets.field-0-is at c.in-Some-Sets.ensures) (told s.others ys s.line (others_long s h))

pub returns-in-Some-Rates : goal.returns-in-Some-Rates
returns-in-Some-Rates c = λ cs ys l h.
    let s = c.in_ok-word.ensures.split cs ys l in
    let told = rw c.in_ok-word.ensures.rest at c.read-in-Some-Rates.ensures in
    said_by_rating s c.in-Some-Rates.rater c.args.here.record c.read-in-Some-Rates.result (rw c.in-Some-Rates.field-0-is at c.in-Some-Rates.ensures) (told s.others ys s.line (others_long s h))

pub returns-in-None : goal.returns-in-None
returns-in-None c = λ cs ys l h. rw c.fault.ensures (unsaid_word (c.in_ok-word.ensures.split cs ys l) c.args.here.record c.in-None.ensures)
