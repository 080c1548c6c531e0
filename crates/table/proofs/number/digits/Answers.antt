-- One more digit makes ten times the value and the digit.
use Rattle.std.proofs.Common.{◌^◌, ◌<◌, sym, arith}
use Rattle.std.proofs.ByRecursion.{All-more}
use Rattle.table.specs.Numbers.{Digit}
use Rattle.table.proofs.Numerals.{value_more, room}
use Rattle.table.proofs.number.digits.Goals as goal
use Rattle.table.proofs.number.digits.Goals.{Else-not-is_ascii_digit}

-- the digits so far leave room for one more
small : (c : goal.Else-not-is_ascii_digit) → c.loop-byte.value < 10 ^ 18
small c =
    let l = c.loop-byte-test.true in
    omega (arith, c.loop-byte.invariant.1, room c.args.bytes.now c.loop-byte.byte-index l (omega arith) c.loop-byte.invariant.0)

pub overflow_mul-value : goal.overflow_mul-value
overflow_mul-value c = record { fits = omega (arith, small c) }

pub overflow_add-value : goal.overflow_add-value
overflow_add-value c =
    let s = small (goal.at.overflow_add-value c).Else-not-is_ascii_digit in
    record { fits = omega (arith, c.from.ensures, c.if-not-is_ascii_digit.ensures.cases.1) }

pub loop-byte-preserved : goal.loop-byte-preserved
loop-byte-preserved c =
    let l = c.loop-byte-test.true in (
      All-more Digit _ _ 0 l c.loop-byte.invariant.0 c.if-not-is_ascii_digit.ensures.cases,
      rw (c.from.ensures, c.loop-byte.invariant.1) (sym (value_more c.args.bytes.now c.loop-byte.byte-index l)),
    )
