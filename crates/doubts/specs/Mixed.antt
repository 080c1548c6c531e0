-- The exact effect of one arrangement with everything in it, worked by hand on the wide deck: all five owners, eight factors that all differ,
-- tandems in three lanes at different places, and a slice of each owner loaded on other stretches.
use Rattle.std.specs.Prelude.{ℕ, zero, suc, cond, ◌&&◌, [], ◌∷◌, pos, Some, None, Option, ◌==◌}
use Rattle.std.proofs.Common.{arith}
use Rattle.algebra.specs.Frac.{Same, over}
use Rattle.lines.specs.Segments.{Loading}
use Rattle.model.specs.declared.weights.LoadKind.{LoadKind}
use Rattle.model.specs.declared.weights.LoadKind.TheVariants.{Characteristic, Frequent}
use Rattle.statement.specs.Effects.{Place, whole_place, Arrangement, Permitted, exact}
use Rattle.statement.specs.Permits.{stretch}
use Rattle.decks.specs.Decks.{wide, wide_lanes, lanes_at}
use Rattle.doubts.specs.Exact.{bare, first_half}

-- a segment that is loaded from end to end, and one that is loaded on its first and its last third
abbrev pub from_end_to_end : Loading
from_end_to_end = record { parts = 1; some = omega arith; stretches = stretch 0 1 ∷ []; apart = (omega arith, omega arith, omega arith) }

abbrev pub outer_thirds : Loading
outer_thirds = record { parts = 3; some = omega arith; stretches = stretch 0 1 ∷ stretch 2 3 ∷ []; apart = (omega arith, omega arith, (omega arith, omega arith, omega arith)) }

-- in lane 1 at 8,800 mm, in lane 2 at 8,799 1/2 mm, in lane 3 at 0
abbrev pub three_tandems : ℕ → Option Place
three_tandems zero = None
three_tandems (suc zero) = Some (whole_place 8800)
three_tandems (suc (suc zero)) = Some (record { num = 17599; den = 2 })
three_tandems (suc (suc (suc zero))) = Some (whole_place 0)
three_tandems (suc (suc (suc (suc i)))) = None

-- From the left: slice 0 is remaining area, 10 the first slice of the other lane, 129 the last of lane 2, 150 the first of lane 3, 269 the last of lane 1.
abbrev pub five_loads : ℕ → ℕ → Loading
five_loads j k =
    cond (j == 0 && k == 0) first_half
    (cond (j == 10 && k == 1) first_half
    (cond (j == 129 && k == 0) outer_thirds
    (cond (j == 150 && k == 0) from_end_to_end
    (cond (j == 269 && k == 1) from_end_to_end bare))))

abbrev pub mixed_arrangement : Arrangement
mixed_arrangement = record { starts = lanes_at wide_lanes; tandem = three_tandems; load = five_loads }

-- it is permitted, and its exact effect is num / den
pub record MixedEffect (kind : LoadKind) (num den : ℕ) : Type 0 where
  pub permitted : Permitted (wide kind) mixed_arrangement
  pub effect_is : Same (exact (wide kind) mixed_arrangement) (over (pos num) den)

-- W is 2 to the mm from the nearer end: 17,600 + 20,000 = 37,600 in lane 1, 17,599 + 19,999 = 37,598 in lane 2, 0 + 2,400 = 2,400 in lane 3.
-- Twice the areas: slice 0 5,000 · (0 + 2,500) = 12,500,000; slice 10 5,000 · (5,000 + 2,500) = 37,500,000;
-- slice 129 10,000/3 · (0 + 5,000/3) + 10,000/3 · (10,000/3 + 5,000) = 100,000,000/3; slices 150 and 269 10,000 · (0 + 5,000) = 50,000,000.
pub record MixedStands : Type 0 where
  -- tandems, times 10,000: 3000·110·37,600 + 2000·120·37,598 + 1000·130·2,400 = 124,080,000,000,000 + 90,235,200,000,000 + 3,120,000,000,000;
  -- loads: 25·170·12,500,000 + 25·160·37,500,000 + 25·140·100,000,000/3 + 25·150·50,000,000 + 90·60·50,000,000
  -- = 53,125,000,000 + 150,000,000,000 + 116,666,666,666 2/3 + 187,500,000,000 + 270,000,000,000; together 218,212,491,666,666 2/3
  pub characteristic : MixedEffect Characteristic 654637475000000 3
  -- tandems: 2250·110·37,600 + 1500·120·37,598 + 750·130·2,400 = 93,060,000,000,000 + 67,676,400,000,000 + 2,340,000,000,000;
  -- loads: 10·170·12,500,000 + 10·160·37,500,000 + 10·140·100,000,000/3 + 10·150·50,000,000 + 36·60·50,000,000
  -- = 21,250,000,000 + 60,000,000,000 + 46,666,666,666 2/3 + 75,000,000,000 + 108,000,000,000; together 163,387,316,666,666 2/3
  pub frequent : MixedEffect Frequent 490161950000000 3
