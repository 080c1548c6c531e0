-- The allowance is needed, and is what is worked by hand: small decks on which the exact effect lies strictly below the rounded one.
use Rattle.std.specs.Prelude.{◌≡◌, ℕ, ◌*◌, ◌≤◌, true, cond, [], ◌∷◌, pos, negsuc, Some, ◌==◌}
use Rattle.algebra.specs.Frac.{Same, ◌≤F◌, whole, over}
use Rattle.surface.specs.Shape.{Shape, Lawful}
use Rattle.card.specs.Bounds.{kerbs_fit, in_bounds}
use Rattle.card.specs.Steps.{hundred}
use Rattle.model.specs.Tandems.{no_tandem}
use Rattle.model.specs.declared.tandems.Tandem.{Tandem}
use Rattle.model.specs.declared.weights.LoadKind.TheVariants.{Characteristic}
use Rattle.statement.specs.Lanes.{Starts}
use Rattle.statement.specs.Effects.{Setting, Permitted, exact, Tandems, rounded_effect, allowance, handed_back}
use Rattle.decks.specs.Decks.{kerbs_of, lanes_at}

-- 60 slices 1,000 mm long: slice 7 falls from 2 to -1, and the others have the ordinate 0
abbrev pub one_fall : Shape
one_fall = record { slices = 60; stations = 2; place = λ k. 1000 * k; ordinate = λ j k. cond (j == 7) (cond (k == 0) (pos 2) (negsuc 0)) (pos 0) }

-- 60 slices 2,700 mm long, each of which falls from 1 to 0
abbrev pub all_fall : Shape
all_fall = record { slices = 60; stations = 2; place = λ k. 2700 * k; ordinate = λ j k. cond (k == 0) (pos 1) (pos 0) }

-- the whole deck as carriageway, one lane, every factor 100, characteristic
abbrev pub all_of : Shape → Setting
all_of s = record { surface = s; kerbs = kerbs_of 0 30; factors = hundred; kind = Characteristic }

abbrev pub at_left : ℕ → ℕ
at_left = lanes_at (0 ∷ [])

-- the rounded effect, the exact effect num / den of what is handed back, and the allowance
pub record Rounds (s : Shape) (t : Tandem) (rounded num den allowed : ℕ) : Type 0 where
  pub lawful : Lawful s
  pub tandems : Tandems (all_of s) (λ x. t)
  pub permitted : Permitted (all_of s) (handed_back (all_of s) (λ x. t) at_left)
  pub rounded_is : rounded_effect (all_of s) (λ x. t) at_left ≡ rounded
  pub exact_is : Same (exact (all_of s) (handed_back (all_of s) (λ x. t) at_left)) (over (pos num) den)
  pub allowance_is : allowance (all_of s) (λ x. t) at_left ≡ allowed
  -- strictly below
  pub below : whole (pos rounded) ≤F exact (all_of s) (handed_back (all_of s) (λ x. t) at_left) → ⊥

-- No more than 5 lanes of 3000 · 200 and 300 slices of 90 · 200 with 63 sign changes each: 3,000,000 + 340,200,000,
-- which is less than 9 kN times an ordinate unit, at 40,000,000 each; the figures of the trial table are more than 400,000 times as much.
abbrev pub Small : Type 0
Small = (g : Setting) → Lawful g.surface → kerbs_fit g.surface.slices g.kerbs ≡ true → in_bounds 40 40 g.factors ≡ true
    → (tandems : ℕ → Tandem) (starts : Starts) → allowance g tandems starts ≤ 343200000

pub record AllowanceStands : Type 0 where
  -- On 1,000 mm no tandem stands. A of slice 7 is 1,000 · 2² / (2 + 1) = 1,333 1/3, rounded up 1,334, and D times αq1 is 9,000.
  -- Rounded 9,000 · 1,334 = 12,006,000; exact 9,000 · 1,333 1/3 = 12,000,000; one sign change allows 9,000.
  pub sign_change : Rounds one_fall no_tandem 12006000 12000000 1 9000
  -- W falls from 4 to 0, so the tandem stands at 0: 4 and 4 · 1,500 / 2,700 make 56/9, and T is 10,000 · 56/9 = 62,222 2/9, rounded up 62,223.
  -- C times αQ1 is 300,000, and each of 60 slices has A = 2,700: 60 · 9,000 · 2,700 = 1,458,000,000.
  -- Rounded 300,000 · 62,223 + 1,458,000,000 = 20,124,900,000; exact 300,000 · 62,222 2/9 + 1,458,000,000 = 20,124,666,666 2/3; one tandem allows 300,000.
  pub tandem : Rounds all_fall (record { t = 62223; place = Some 0 }) 20124900000 60374000000 3 300000
  -- and it is never large
  pub small : Small
