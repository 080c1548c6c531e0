use Rattle.std.proofs.Common.{◌≡◌, ◌+◌, ◌<◌, length, arith}
use Rattle.table.proofs.Chains.{line_stands}
use Rattle.script.proofs.Splits.{split_first}
use Rattle.script.proofs.first.read_first.Goals as goal

pub returns-in_err-read-clause-split : goal.returns-in_err-read-clause-split
returns-in_err-read-clause-split c = λ cs ys l. absurd (line_stands cs l c.in_err-read.ensures.1)

pub returns-clause-split : goal.returns-clause-split
returns-clause-split c = λ cs ys l.
    let step : c.in_ok-read.read.next < length c.args.here.input.now → c.saturating_add.result ≡ c.in_ok-read.read.next + 1 = λ h. omega arith in
    rw c.moved_to.ensures (split_first cs l c.in_ok-read.ensures step)
