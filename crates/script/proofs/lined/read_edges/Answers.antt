use Rattle.std.proofs.Common.{◌≡◌, ◌∙◌, length, pos, subst, arith}
use Rattle.std.proofs.lemmas.Result.{err_from_is_err_and}
use Rattle.table.specs.Numbers.{Writes}
use Rattle.records.specs.Numbers.{Written}
use Rattle.records.proofs.Progress.{taken_whole, written_length}
use Rattle.script.proofs.Numbered.{three}
use Rattle.script.proofs.Saying.{others_long, edge_headed, unheaded_count, unheaded_number}
use Rattle.script.proofs.lined.read_edges.Goals as goal

pub returns-in_err-word : goal.returns-in_err-word
returns-in_err-word c = λ cs ys l h. let told = rw c.start-start.ensures at c.in_err-word.ensures.split in absurd (told cs ys l)

pub returns-then-fields : goal.returns-then-fields
returns-then-fields c = λ cs ys l h.
    let split = rw c.start-start.ensures at c.in_ok-word.ensures.split in
    let s = split cs ys l in
    let told = rw c.start-start.ensures at c.fault.ensures in
    rw told (unheaded_count s (λ e. c.if-fields.true (omega (arith, others_long s h))))

pub returns-in_err-numbers : goal.returns-in_err-numbers
returns-in_err-numbers c = λ cs ys l h.
    let p = err_from_is_err_and c.from_residual-in_err-numbers.result c.from_residual-in_err-numbers.ensures.1 in
    let split = rw c.start-start.ensures at c.in_ok-word.ensures.split in
    let s = split cs ys l in
    let n : length s.others ≡ 3 = omega (arith, others_long s h, c.if-fields.false) in
    let told = rw (c.in_ok-word.ensures.rest, c.start-start.ensures) at c.in_err-numbers.ensures.numbers in
    rw (p.1, p.2) (unheaded_number s c.in_err-numbers.field-0.0 n (told s.others ys (s.line (omega arith)) n))

pub returns : goal.returns
returns c = λ cs ys l h.
    let split = rw c.start-start.ensures at c.in_ok-word.ensures.split in
    let s = split cs ys l in
    let n : length s.others ≡ 3 = omega (arith, others_long s h, c.if-fields.false) in
    let t = taken_whole (c.in_ok-numbers.ensures.numbers s.others ys (s.line (omega arith)) n) (omega arith) in
    let is = rw c.unwrap.ensures at c.into_inner.ensures.ok in
    let w : Written Writes s.others c.unwrap.result = rw is t in
    rw (c.edges_of.ensures.slices, c.edges_of.ensures.left, c.edges_of.ensures.right) (edge_headed s _ _ _ (subst (Written Writes s.others) (three (pos 0) c.unwrap.result (written_length Writes s.others c.unwrap.result w ∙ n)) w))
