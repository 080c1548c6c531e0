-- Table 4.1 at every width, and where the wheels of an axle stand.
use Rattle.std.proofs.Common.{◌≡◌, ℕ, zero, suc, ◌-◌, ◌<◌, ◌≤◌, get_or, arith}
use Rattle.std.proofs.lemmas.Bool.Decides.{nat_tests}
use Rattle.model.specs.Lanes.{lane_slices, wheels}
use Rattle.model.specs.Facts.{Table41, LanesFit, LaneRange, WheelsInside, WheelsMirrored}

pub table : Table41
table = record {
  narrow = λ w h k. record { count_is = grind (arith, nat_tests); slices_is = grind (arith, nat_tests) };
  halved = λ w h k. record { count_is = grind (arith, nat_tests); slices_is = grind (arith, nat_tests) };
  wide = λ w h k. record { count_is = grind (arith, nat_tests); slices_is = grind (arith, nat_tests) };
}

pub fit : LanesFit
fit w h = grind (arith, nat_tests)

pub lane_range : LaneRange
lane_range w = (grind (arith, nat_tests), grind (arith, nat_tests))

pub wheel_inside : (l i : ℕ) → 54 ≤ l → i < 4 → get_or (wheels l) i 0 < l
wheel_inside l zero h k = omega arith
wheel_inside l (suc zero) h k = omega arith
wheel_inside l (suc (suc zero)) h k = omega arith
wheel_inside l (suc (suc (suc zero))) h k = omega arith
wheel_inside l (suc (suc (suc (suc i)))) h k = absurd (omega arith)

wheel_mirrored : (l i : ℕ) → 54 ≤ l → i < 4 → get_or (wheels l) (3 - i) 0 ≡ l - 1 - get_or (wheels l) i 0
wheel_mirrored l zero h k = omega arith
wheel_mirrored l (suc zero) h k = omega arith
wheel_mirrored l (suc (suc zero)) h k = omega arith
wheel_mirrored l (suc (suc (suc zero))) h k = omega arith
wheel_mirrored l (suc (suc (suc (suc i)))) h k = absurd (omega arith)

pub inside : WheelsInside
inside w i k = wheel_inside (lane_slices w) i (lane_range w).0 k

pub mirrored : WheelsMirrored
mirrored w i k = wheel_mirrored (lane_slices w) i (lane_range w).0 k
