-- The allowance is never large.
use Rattle.std.proofs.Common.{◌≡◌, ℕ, zero, suc, ◌+◌, ◌-◌, ◌*◌, ◌≤◌, true, ℤ, pos, negsuc, Some, None, Option, mul-le-mul, arith}
use Rattle.surface.specs.Shape.{Shape, Lawful}
use Rattle.card.specs.Bounds.{in_bounds}
use Rattle.model.specs.Lanes.{breadth, lanes_in, lane_slices}
use Rattle.model.proofs.Tables.{fit, lane_range}
use Rattle.lines.specs.Segments.{sign_changes}
use Rattle.lines.specs.Areas.{changes_of}
use Rattle.placing.specs.Loaded.{Loads, Low}
use Rattle.placing.proofs.Loaded.{tandem_weight_low, uniform_weight_low}
use Rattle.placing.proofs.Totals.{total_low}
use Rattle.statement.specs.Lanes.{owner_of, owner_at}
use Rattle.statement.specs.Effects.{Setting, lane_count, on_deck, tandem_share, uniform_share, stood}
use Rattle.statement.proofs.Low.{factors_low}
use Rattle.doubts.specs.Allowance.{Small}
use Rattle.doubts.proofs.Laid.{widths}

product_low : (a b c d : ℕ) → a ≤ c → b ≤ d → a * b ≤ c * d
product_low a b c d h k = mul-le-mul h k

stood_low : (p : Option ℕ) → stood p ≤ 1
stood_low None = omega arith
stood_low (Some r) = omega arith

change_low : (v u : ℤ) → sign_changes v u ≤ 1
change_low (pos c) (pos e) = omega arith
change_low (pos zero) (negsuc e) = omega arith
change_low (pos (suc c)) (negsuc e) = omega arith
change_low (negsuc e) (pos zero) = omega arith
change_low (negsuc e) (pos (suc c)) = omega arith
change_low (negsuc c) (negsuc e) = omega arith

changes_low : (s : Shape) → Lawful s → (j : ℕ) → changes_of s j ≤ 63
changes_low s lawful j = omega (arith, total_low (s.stations - 1) 1 (λ k. sign_changes (s.ordinate j k) (s.ordinate j (k + 1))) (λ k h. change_low (s.ordinate j k) (s.ordinate j (k + 1))), lawful.few)

-- at most five lanes, since five of 54 slices and more fill 270 of 300
few_lanes : (w : ℕ) → 30 ≤ w → w ≤ 150 → lanes_in w ≤ 5
few_lanes w lo hi = by (lanes_in w) (lane_slices w) (lane_range w).0 (omega (arith, fit w lo))
  where
    by : (n l : ℕ) → 54 ≤ l → n * l ≤ 300 → n ≤ 5
    by n l h k = omega (arith, product_low n 54 n l (omega arith) h)

sums_low : (a b m n : ℕ) → a ≤ m * 600000 → m ≤ 5 → b ≤ n * 1134000 → n ≤ 300 → a + b ≤ 343200000
sums_low a b m n h k p q = omega arith

-- the shares of a setting are those of loads with neither areas nor tandems
abbrev no_loads : Setting → Loads
no_loads g = record { slices = 0; lane = 60; kind = g.kind; factors = g.factors; area = λ j. 0; top = λ j. 0 }

low_loads : (g : Setting) → in_bounds 40 40 g.factors ≡ true → Low (no_loads g)
low_loads g bounds =
    let low = factors_low g.factors bounds in
    record { few = omega arith; wide = omega arith; narrow = omega arith; areas = λ j h. omega arith; tops = λ j h. omega arith; tandem_factors = low.tandem; uniform_factors = low.uniform }

pub small : Small
small g lawful fits bounds tandems starts =
    let w = widths g.surface.slices g.kerbs fits in
    let low = low_loads g bounds in
    sums_low _ _ (lane_count g) (breadth g.kerbs)
    (total_low (lane_count g) 600000 _ (λ i h.
    product_low (tandem_share g (suc i)) (stood (tandems (starts (suc i))).place) 600000 1 (tandem_weight_low (no_loads g) low (owner_of (suc i))) (stood_low (tandems (starts (suc i))).place)))
    (few_lanes g.kerbs.width w.least w.most)
    (total_low (breadth g.kerbs) 1134000 _ (λ j h.
    product_low (uniform_share g starts j) (changes_of g.surface (on_deck g j)) 18000 63 (uniform_weight_low (no_loads g) low (owner_at g.kerbs starts j)) (changes_low g.surface lawful (on_deck g j))))
    (omega (arith, w.most))
