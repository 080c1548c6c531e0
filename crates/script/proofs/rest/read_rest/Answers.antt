use Rattle.std.proofs.Common.{◌≡◌, ◌<◌, length, arith}
use Rattle.script.specs.Rest as rest
use Rattle.script.proofs.Saying.{counted_numbers}
use Rattle.script.proofs.rest.read_rest.Goals as goal

pub returns-then-fields : goal.returns-then-fields
returns-then-fields g c = λ ds ys l h. rw c.fault.ensures (rest.count (λ e. c.if-fields.true (omega arith)))

pub returns : goal.returns
returns g c = λ ds ys l h.
    let n : length ds ≡ g.row.COUNT = omega (arith, c.if-fields.false) in
    let some : 0 < length ds = omega (arith, c.requires.0) in
    counted_numbers _ _ _ n c.read_naturals.result (c.read_naturals.ensures ds ys (l some) n)
