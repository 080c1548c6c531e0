use Rattle.std.proofs.Common.{◌≡◌, ℕ, ◌∙◌, refl, subst, arith}
use Rattle.std.proofs.lemmas.Result.{err_from_is_err_and}
use Rattle.table.specs.Numbers.{Counts}
use Rattle.records.proofs.Progress.{written_length}
use Rattle.script.specs.Rest.{Naturals}
use Rattle.script.proofs.Numbered.{three}
use Rattle.script.proofs.Saying.{others_long, opens, unopened_word, unopened_numbers}
use Rattle.script.proofs.opening.read_open.Goals as goal

pub returns-in_err-word : goal.returns-in_err-word
returns-in_err-word c = λ cs ys l h. absurd (c.in_err-word.ensures.split cs ys l)

pub returns-then-not-is_word : goal.returns-then-not-is_word
returns-then-not-is_word c = λ cs ys l h.
    rw c.fault.ensures
    (unopened_word (c.in_ok-word.ensures.split cs ys l) c.args.here.record (λ w. let z = c.if-not-is_word.ensures.1 w in let n : ◌≡◌ {A = ℕ} 0 1 = cc in omega arith))

pub returns-in_err-number : goal.returns-in_err-number
returns-in_err-number c = λ cs ys l h.
    let p = err_from_is_err_and c.from_residual-in_err-number.result c.from_residual-in_err-number.ensures.1 in
    let s = c.in_ok-word.ensures.split cs ys l in
    let told = rw c.in_ok-word.ensures.rest at c.in_err-number.ensures in
    rw (p.1, p.2) (unopened_numbers s c.args.here.record c.in_err-number.field-0.0 (c.if-not-is_word.ensures.0 refl) (told s.others ys s.line (others_long s h)))

pub returns : goal.returns
returns c = λ cs ys l h.
    let s = c.in_ok-word.ensures.split cs ys l in
    let q = c.in_ok-number.ensures s.others ys s.line (others_long s h) in
    let n = written_length Counts s.others c.in_ok-number.field-0 q.1 ∙ q.0 in
    opens s _ _ _ (c.if-not-is_word.ensures.0 refl) (subst (Naturals s.others) (three 0 _ n) q.1)
