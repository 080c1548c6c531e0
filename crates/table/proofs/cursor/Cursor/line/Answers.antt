-- Each comma brings one more field; the first that does not stand is the fault.
use Rattle.std.proofs.Common.{◌+◌, arith}
use Rattle.std.proofs.lemmas.Result.{err_from_is_err_and}
use Rattle.table.proofs.FirstPass.{sofar_first, sofar_more, sofar_broken, sofar_done, refused_field}
use Rattle.table.proofs.cursor.Cursor.line.Goals as goal
use Rattle.table.proofs.cursor.Cursor.line.Goals.{then-loop-end-test+else-self-end-eq44, else-loop-end-test, then-end-self, else-end-self}

pub loop-end-init : goal.loop-end-init
loop-end-init c = sofar_first c.in_ok-end.ensures

pub loop-end-preserved : goal.loop-end-preserved
loop-end-preserved c = sofar_more c.loop-end.invariant c.loop-end-test.true c.if-self-end-eq44.true (rw c.moved_to.ensures at c.in_ok-end-2.ensures)

pub returns-in_err-end-2 : goal.returns-in_err-end-2
returns-in_err-end-2 c =
    let p = err_from_is_err_and c.from_residual-in_err-end-2.result c.from_residual-in_err-end-2.ensures.1 in
    let told = rw c.moved_to.ensures at c.in_err-end-2.ensures in
    rw (p.1, p.2)
    (refused_field c.args.self.input.now c.args.self.at c.args.self.record (c.loop-end.fields + 1) _ told.0 (sofar_broken c.loop-end.invariant c.loop-end-test.true c.if-self-end-eq44.true told.1) c.in_ok-check_length.ensures)

pub returns : goal.returns
returns c =
    sofar_done c.loop-end.invariant c.in_ok-check_length.ensures
    (λ l e. elim c.loop-end-test.branch [
      | then-loop-end-test+else-self-end-eq44 w ↦ w.if-self-end-eq44.false e
      | else-loop-end-test w ↦ omega (arith, w.loop-end-test.false)
    ])
    c.if-end-self.next
    (λ l. elim c.if-end-self.branch [
      | then-end-self w ↦ w.next-is
      | else-end-self w ↦ absurd (omega (arith, w.if-end-self.false))
    ])
    (λ l. elim c.if-end-self.branch [
      | then-end-self w ↦ absurd (omega (arith, w.if-end-self.true))
      | else-end-self w ↦ w.next-is
    ])
