-- The tables of the load model, as facts of the definitions.
use Rattle.std.specs.Prelude.{◌≡◌, ℕ, ◌-◌, ◌*◌, ◌/◌, ◌<◌, ◌≤◌, [], ◌∷◌, slice_index}
use Rattle.model.specs.Lanes.{lanes_in, lane_slices, wheels}
use Rattle.model.specs.Weights.{tandem_load, uniform_load}
use Rattle.model.specs.declared.owners.Owner.TheVariants.{Remaining, Lane1, Lane2, Lane3, Other}
use Rattle.model.specs.declared.weights.LoadKind.TheVariants.{Characteristic, Frequent}

-- a carriageway of w decimetres has so many lanes, of so many slices
pub record LanesAre (w count slices : ℕ) : Type 0 where
  pub count_is : lanes_in w ≡ count
  pub slices_is : lane_slices w ≡ slices

-- every width of Table 4.1
pub record Table41 : Type 0 where
  pub narrow : (w : ℕ) → 30 ≤ w → w ≤ 53 → LanesAre w 1 60
  pub halved : (w : ℕ) → 54 ≤ w → w ≤ 59 → LanesAre w 2 w
  pub wide : (w : ℕ) → 60 ≤ w → w ≤ 150 → LanesAre w (w / 30) 60

-- at every width from 3 m up, the lanes fit side by side between the kerbs
abbrev pub LanesFit : Type 0
LanesFit = (w : ℕ) → 30 ≤ w → lanes_in w * lane_slices w ≤ 2 * w

-- a lane has 54 to 60 slices
abbrev pub LaneRange : Type 0
LaneRange = (w : ℕ) → (54 ≤ lane_slices w) × (lane_slices w ≤ 60)

-- at every width, the four wheels stand inside the lane
abbrev pub WheelsInside : Type 0
WheelsInside = (w i : ℕ) → i < 4 → slice_index (wheels (lane_slices w)) i < lane_slices w

-- a lane that is turned side for side has its wheels on the same slices
abbrev pub WheelsMirrored : Type 0
WheelsMirrored = (w i : ℕ) → i < 4 → slice_index (wheels (lane_slices w)) (3 - i) ≡ lane_slices w - 1 - slice_index (wheels (lane_slices w)) i

-- a lane of an odd number of slices has two wheels on each of two slices
abbrev pub WheelsOf55 : Type 0
WheelsOf55 = wheels 55 ≡ 7 ∷ 7 ∷ 47 ∷ 47 ∷ []

-- the rows of Table 4.2: tandem and uniform load, characteristic and frequent
pub record Table42 : Type 0 where
  pub tandem1 : (tandem_load Characteristic Lane1 ≡ 3000) × (tandem_load Frequent Lane1 ≡ 2250)
  pub tandem2 : (tandem_load Characteristic Lane2 ≡ 2000) × (tandem_load Frequent Lane2 ≡ 1500)
  pub tandem3 : (tandem_load Characteristic Lane3 ≡ 1000) × (tandem_load Frequent Lane3 ≡ 750)
  pub uniform1 : (uniform_load Characteristic Lane1 ≡ 90) × (uniform_load Frequent Lane1 ≡ 36)
  pub others : (uniform_load Characteristic Other ≡ 25) × (uniform_load Frequent Other ≡ 10)
  pub remaining : (uniform_load Characteristic Remaining ≡ 25) × (uniform_load Frequent Remaining ≡ 10)
