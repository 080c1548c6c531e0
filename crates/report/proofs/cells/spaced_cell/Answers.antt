use Rattle.std.proofs.Common.{ℕ, ◌≤◌, List, ◌++◌, length, string_bytes, sym, ap, ◌∙◌, rules}
use Rattle.std.proofs.lemmas.List.{append-nil}
use Rattle.report.proofs.Spacing.{spaced_all, spaced_more}
use Rattle.report.proofs.cells.spaced_cell.Goals as goal

pub loop-number-init : goal.loop-number-init
loop-number-init c = c.in_ok-text.ensures.ok ∙ sym (append-nil _)

pub loop-number-preserved : goal.loop-number-preserved
loop-number-preserved c =
    c.in_ok-push_str.ensures.bytes
    ∙ ap (λ (more : List ℕ). string_bytes c.loop-number.text ++ more) (c.as_str.ensures.value ∙ c.in_ok-more.ensures)
    ∙ spaced_more _ _ c.loop-number.number-index _ c.loop-number-test.true c.loop-number.invariant

pub returns : goal.returns
returns c =
    let some : 1 ≤ length c.args.numbers.now = search rules in
    c.loop-number.invariant ∙ spaced_all c.args.numbers.now c.loop-number.number-index some c.loop-number-test.false
