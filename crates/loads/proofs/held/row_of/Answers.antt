use Rattle.std.proofs.Common.{ℕ, ◌≤◌, List, ◌++◌, ℤ, pos, get_or, drop, replicate, unsigned_abs, rules, arith}
use Rattle.loads.proofs.Each.{each_same, each_take, each_joined}
use Rattle.loads.proofs.held.row_of.Goals as goal

abbrev Low : ℤ → Type 0
Low v = unsigned_abs v ≤ 100000

zeros : (k : ℕ) → unsigned_abs (get_or (replicate 64 (pos 0)) k (pos 0)) ≤ 100000
zeros = each_same Low (pos 0) (omega arith) 64 (pos 0) (omega arith)

joined : (n : ℕ) (xs ys : List ℤ) → ((k : ℕ) → unsigned_abs (get_or xs k (pos 0)) ≤ 100000) → ((k : ℕ) → unsigned_abs (get_or ys k (pos 0)) ≤ 100000) → (k : ℕ) → unsigned_abs (get_or (xs ++ drop n ys) k (pos 0)) ≤ 100000
joined n xs ys h i = each_joined Low (pos 0) (omega arith) n xs ys h i

pub loop-k-init : goal.loop-k-init
loop-k-init g c = record { value = search rules; low = each_take Low (pos 0) (omega arith) _ _ zeros }

pub returns-clause-low : goal.returns-clause-low
returns-clause-low g c = search (rules, joined, zeros)
