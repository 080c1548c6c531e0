use Rattle.std.proofs.Common.{ℕ, List, ℤ, ◌≤◌, [], pos, get_or, unsigned_abs, rules, arith, replicate}
use Rattle.loads.proofs.Each.{each_same, each_take, each_joined}
use Rattle.loads.proofs.held.rows_of.Goals as goal

abbrev Low : List ℤ → Type 0
Low r = (k : ℕ) → unsigned_abs (get_or r k (pos 0)) ≤ 100000

none : Low []
none k = omega arith

zeros : Low (replicate 64 (pos 0))
zeros = each_same (λ v. unsigned_abs v ≤ 100000) (pos 0) (omega arith) 64 (pos 0) (omega arith)

pub loop-j-init : goal.loop-j-init
loop-j-init g c = record { value = search rules; low = each_take Low [] none c.args.slices _ (each_same Low [] none 300 _ zeros) }

pub returns-clause-low : goal.returns-clause-low
returns-clause-low g c = each_joined Low [] none c.args.slices _ _ c.loop-j.invariant.low (each_same Low [] none 300 _ zeros)
