use Rattle.std.proofs.Common.{◌≡◌, ℕ, ◌-◌, ◌<◌}
use Rattle.surface.specs.Verdict.{Verdict, each_judged}
use Rattle.surface.proofs.each.check_each.Given as goal

abbrev pub invariant-loop-k : goal.invariant-loop-k
invariant-loop-k g l =
    (f : ℕ → Verdict) → ((k : ℕ) (r : Verdict) → k < l.count → goal.F-post g l.check k r → r ≡ f k) → each_judged f l.k (l.count - l.k) ≡ each_judged f 0 l.count
