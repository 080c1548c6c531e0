-- The exact effect of small arrangements, worked by hand on the trial deck.
use Rattle.std.specs.Prelude.{ℕ, cond, ◌&&◌, [], ◌∷◌, pos, None, ◌==◌}
use Rattle.std.proofs.Common.{arith}
use Rattle.algebra.specs.Frac.{Same, whole}
use Rattle.lines.specs.Segments.{Loading}
use Rattle.model.specs.declared.weights.LoadKind.{LoadKind}
use Rattle.model.specs.declared.weights.LoadKind.TheVariants.{Characteristic, Frequent}
use Rattle.statement.specs.Effects.{Place, whole_place, Arrangement, Permitted, exact}
use Rattle.statement.specs.Permits.{one_tandem, stretch}
use Rattle.decks.specs.Decks.{trial, lanes_at}

-- a segment that is not loaded, and one that is loaded on its first half
abbrev pub bare : Loading
bare = record { parts = 1; some = omega arith; stretches = []; apart = omega arith }

abbrev pub first_half : Loading
first_half = record { parts = 2; some = omega arith; stretches = stretch 0 1 ∷ []; apart = (omega arith, omega arith, omega arith) }

-- a tandem in lane 1, which begins at slice 0, and no other load
abbrev pub tandem_alone : Place → Arrangement
tandem_alone p = record { starts = lanes_at (0 ∷ []); tandem = one_tandem 1 p; load = λ j k. bare }

-- segment m of slice n loaded like this, and nothing else
abbrev pub load_alone : ℕ → ℕ → Loading → Arrangement
load_alone n m l = record { starts = lanes_at (0 ∷ []); tandem = λ i. None; load = λ j k. cond (j == n && k == m) l bare }

-- on the trial deck, with kerbs 3.0 m apart, the arrangement is permitted and its exact effect is this whole number
pub record HasEffect (kind : LoadKind) (x : Arrangement) (effect : ℕ) : Type 0 where
  pub permitted : Permitted (trial 30 kind) x
  pub effect_is : Same (exact (trial 30 kind) x) (whole (pos effect))

-- The ordinate rises from 0 to 5,000 at 10,000 mm and falls to 0 at 20,000 mm, the same under all four wheels,
-- so W is 2 to the mm from the nearer end. C times αQ1 is 3000 · 100 = 300,000, frequent 2250 · 100 = 225,000;
-- D times αq1 is 90 · 100 = 9,000, frequent 36 · 100 = 3,600.
pub record ExactStands : Type 0 where
  -- rear axle at 8,800: W is 17,600, and 20,000 at 10,000: together 37,600.
  -- 300,000 · 10,000 · 37,600 = 112,800,000,000,000, and frequent 225,000 · 10,000 · 37,600 = 84,600,000,000,000
  pub tandem : HasEffect Characteristic (tandem_alone (whole_place 8800)) 112800000000000
  pub tandem_frequent : HasEffect Frequent (tandem_alone (whole_place 8800)) 84600000000000
  -- rear axle at 8,800 1/2: W is 17,601, and at 10,000 1/2, which is 9,999 1/2 from the end, 19,999: together 37,600 again
  pub tandem_after : HasEffect Characteristic (tandem_alone (record { num = 17601; den = 2 })) 112800000000000
  pub tandem_after_frequent : HasEffect Frequent (tandem_alone (record { num = 17601; den = 2 })) 84600000000000
  -- rear axle at 8,799 1/2: W is 17,599, and at 9,999 1/2 19,999: together 37,598.
  -- 300,000 · 10,000 · 37,598 = 112,794,000,000,000
  pub tandem_before : HasEffect Characteristic (tandem_alone (record { num = 17599; den = 2 })) 112794000000000
  -- slice 0 from 0 to 5,000 mm, where the ordinate is 2,500: twice the area is 5,000 · (0 + 2,500) = 12,500,000.
  -- 9,000 · 12,500,000 = 112,500,000,000, and frequent 3,600 · 12,500,000 = 45,000,000,000
  pub half : HasEffect Characteristic (load_alone 0 0 first_half) 112500000000
  pub half_frequent : HasEffect Frequent (load_alone 0 0 first_half) 45000000000
  -- the last slice, 59, from 10,000 to 15,000 mm, where the ordinate falls from 5,000 to 2,500: 5,000 · (5,000 + 2,500) = 37,500,000.
  -- 9,000 · 37,500,000 = 337,500,000,000
  pub falling_half : HasEffect Characteristic (load_alone 59 1 first_half) 337500000000
  -- and slice 60, which is beyond the kerbs, counts for nothing
  pub beyond : HasEffect Characteristic (load_alone 60 0 first_half) 0
