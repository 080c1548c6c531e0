-- A turn passes one other byte or a pair of quotes, and stops at a quote that stands alone.
use Rattle.std.proofs.Common.{arith}
use Rattle.table.specs.Cells.{empty}
use Rattle.table.proofs.Turns.{paired_other, paired_pair, closed_here}
use Rattle.table.proofs.field.closing_quote.Goals as goal
use Rattle.table.proofs.field.closing_quote.Goals.{else-i-inner-via-then-i-inner+else-inner-i-eq-QUOTE, else-i-inner-via-else-i-inner}

pub loop-i-init : goal.loop-i-init
loop-i-init c = (empty, omega arith)

pub loop-i-preserved-then-inner-i-ne-QUOTE : goal.loop-i-preserved-then-inner-i-ne-QUOTE
loop-i-preserved-then-inner-i-ne-QUOTE c =
    (paired_other _ _ c.loop-i-test.true c.loop-i.invariant.0 c.if-inner-i-ne-QUOTE.true, omega arith)

pub loop-i-preserved : goal.loop-i-preserved
loop-i-preserved c =
    (paired_pair _ _ c.if-i-inner.true c.loop-i.invariant.0 c.if-inner-i-ne-QUOTE.false c.if-inner-i-eq-QUOTE.true, omega arith)

pub returns-else-i-inner : goal.returns-else-i-inner
returns-else-i-inner c =
    closed_here _ _ c.loop-i-test.true c.loop-i.invariant.0 c.if-inner-i-ne-QUOTE.false
    (λ more quote. elim c.else-i-inner.branch [
      | else-i-inner-via-then-i-inner+else-inner-i-eq-QUOTE w ↦ w.if-inner-i-eq-QUOTE.false quote
      | else-i-inner-via-else-i-inner w ↦ omega (arith, w.if-i-inner.false)
    ])
