-- The sums up to i are those of the areas before.
use Rattle.std.proofs.Common.{◌≡◌, ℕ, ◌*◌, ◌≤◌, length, get_or}
use Rattle.algebra.specs.Sums.{total}
use Rattle.placing.specs.Loaded.{most_area}
use Rattle.loaded.proofs.making.running_sums.Given as goal

abbrev pub invariant-loop-i : goal.invariant-loop-i
invariant-loop-i l =
    (length l.sums ≡ 301)
    × (get_or l.sums l.i 0 ≤ l.i * most_area)
    × ((k : ℕ) → k ≤ l.i → get_or l.sums k 0 ≡ total k (λ j. get_or l.areas j 0))
