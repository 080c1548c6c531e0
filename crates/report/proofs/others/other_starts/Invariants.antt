use Rattle.std.proofs.Common.{◌≡◌, ◌≤◌, vec_items}
use Rattle.report.specs.Shown.{BeginsOther, Listed, count_of}
use Rattle.report.proofs.others.other_starts.Given as goal

abbrev pub invariant-loop-j : goal.invariant-loop-j
invariant-loop-j l = (l.before ≡ count_of l.owners l.j 4) × (l.before ≤ l.j) × Listed (BeginsOther l.owners) l.j (vec_items l.starts)
