use Rattle.std.proofs.Common.{rules}
use Rattle.edge.specs.Judged.{station_judged}
use Rattle.edge.proofs.checks.check_edge.Goals as goal

pub returns-then-unsigned_abs-gt2000 : goal.returns-then-unsigned_abs-gt2000
returns-then-unsigned_abs-gt2000 c =
    let e = c.in_ok-check_each.ensures (station_judged c.args.line.now) (λ k r h p. search rules) in
    search rules

pub returns : goal.returns
returns c =
    let e = c.in_ok-check_each.ensures (station_judged c.args.line.now) (λ k r h p. search rules) in
    search rules
