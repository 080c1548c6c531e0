use Rattle.std.proofs.Common.{◌<◌, ◌≤◌, nat_abs, pos, sym, arith, rules}
use Rattle.std.proofs.lemmas.Iterator.{IsFirst-from_position, YieldsList-from_slice}
use borrow.Author.Tests.{tests}
use Rattle.measured.proofs.Ordinates.{ordinates_bad, ordinates_all}
use Rattle.measured.proofs.checks.check_ordinates.Goals as goal

pub returns-in-Some : goal.returns-in-Some
returns-in-Some c =
    let p = IsFirst-from_position _ _ _ (λ v. 100000 < nat_abs v) (λ v. nat_abs v ≤ 100000) c.in-Some.ensures.ran (YieldsList-from_slice c.args.ordinates.now cc) (λ x q k. search (rules, tests)) (λ x q k. search (rules, tests)) in
    sym (ordinates_bad c.args.line 2 c.args.ordinates.now c.in-Some.i p.0 (λ k h. p.2 k (pos 0) (omega arith) h) (p.1 (pos 0)))

pub returns-in-None : goal.returns-in-None
returns-in-None c =
    let p = IsFirst-from_position _ _ _ (λ v. 100000 < nat_abs v) (λ v. nat_abs v ≤ 100000) c.in-None.ensures.ran (YieldsList-from_slice c.args.ordinates.now cc) (λ x q k. search (rules, tests)) (λ x q k. search (rules, tests)) in
    sym (ordinates_all c.args.line 2 c.args.ordinates.now (λ k h. p k (pos 0) (omega arith) h))
