-- Sums of as many parts as one likes, by index.
use Rattle.std.specs.Prelude.{ℕ, zero, suc, ◌+◌, ◌<◌, pos}
use Rattle.algebra.specs.Frac.{Frac, ◌≤F◌, whole, ◌+F◌}

-- f 0 + f 1 + … + f (n - 1)
abbrev pub total : ℕ → (ℕ → ℕ) → ℕ
total zero f = 0
total (suc n) f = total n f + f n

abbrev pub totalF : ℕ → (ℕ → Frac) → Frac
totalF zero f = whole (pos 0)
totalF (suc n) f = totalF n f +F f n

-- parts, each of which a whole number bounds
abbrev pub TotalBound : Type 0
TotalBound = (n : ℕ) (f : ℕ → Frac) (b : ℕ → ℕ) → ((k : ℕ) → k < n → f k ≤F whole (pos (b k))) → totalF n f ≤F whole (pos (total n b))

-- parts, each of which comes within an allowance of a whole number
abbrev pub TotalNear : Type 0
TotalNear = (n : ℕ) (f : ℕ → Frac) (b c : ℕ → ℕ) → ((k : ℕ) → k < n → whole (pos (b k)) ≤F f k +F whole (pos (c k)))
    → whole (pos (total n b)) ≤F totalF n f +F whole (pos (total n c))
