use Rattle.std.proofs.Common.{ℕ, List, ◌++◌, inl, inr, string_bytes, sym, ap, ◌∙◌, subst}
use Rattle.report.proofs.Runs.{Completes, completes_more, no_more_calls, no_more_answers}
use Rattle.report.proofs.told.answer_lines.Goals as goal

pub loop-call-preserved : goal.loop-call-preserved
loop-call-preserved c =
    let calls = c.args.calls.now in
    let answers = c.args.answers.now in
    let text = string_bytes c.loop-call.text in
    let step = c.in-Some.ensures.steps in
    let e = c.in_ok-push_str.ensures.bytes ∙ ap (λ (line : List ℕ). text ++ line) c.as_str.ensures.value in
    subst (λ (t : List ℕ). Completes calls answers c.next.new.self.a.rest.now c.next.new.self.b.rest.now t) (sym e)
    (completes_more calls answers c.in-Some.call.now c.next.new.self.a.rest.now c.in-Some.answer.now c.next.new.self.b.rest.now text _ c.in_ok-line.ensures (rw (step.0, step.1) at c.loop-call.invariant))

pub returns : goal.returns
returns c = elim c.in-None.ensures.steps [
  | inl none ↦ no_more_calls c.args.calls.now c.args.answers.now _ _ _ none.1.0 c.loop-call.invariant
  | inr none ↦ no_more_answers c.args.calls.now c.args.answers.now _ _ _ none.1.0 c.loop-call.invariant
]
