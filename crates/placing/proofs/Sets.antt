-- The three-bit lane set, digit by digit.
use Rattle.std.proofs.Common.{◌≡◌, ℕ, zero, suc, ◌+◌, ◌-◌, ◌*◌, ◌/◌, ◌%◌, ◌<◌, ◌≤◌, sym, refl, subst, arith}
use lib.Bits.{bit_and}
use lib.Count.{ones, ones_in}
use Rattle.model.specs.Lanes.{lanes_in, lane_slices}
use Rattle.model.proofs.Tables.{fit}
use Rattle.placing.specs.Placing.{lane_set}

pub record Digits (m : ℕ) : Type 0 where
  pub first : bit_and m 1 ≡ m % 2
  pub second : bit_and m 2 ≡ 2 * (m / 2 % 2)
  pub third : bit_and m 4 ≡ 4 * (m / 4 % 2)
  pub made : m ≡ 4 * (m / 4 % 2) + 2 * (m / 2 % 2) + m % 2
  pub count : ones m ≡ m % 2 + m / 2 % 2 + m / 4 % 2

pub digits : (m : ℕ) → m < 8 → Digits m
unfolding ones ones_in
digits zero h = record { first = refl; second = refl; third = refl; made = refl; count = refl }
digits (suc zero) h = record { first = refl; second = refl; third = refl; made = refl; count = refl }
digits (suc (suc zero)) h = record { first = refl; second = refl; third = refl; made = refl; count = refl }
digits (suc (suc (suc zero))) h = record { first = refl; second = refl; third = refl; made = refl; count = refl }
digits (suc (suc (suc (suc zero)))) h = record { first = refl; second = refl; third = refl; made = refl; count = refl }
digits (suc (suc (suc (suc (suc zero))))) h = record { first = refl; second = refl; third = refl; made = refl; count = refl }
digits (suc (suc (suc (suc (suc (suc zero)))))) h = record { first = refl; second = refl; third = refl; made = refl; count = refl }
digits (suc (suc (suc (suc (suc (suc (suc zero))))))) h = record { first = refl; second = refl; third = refl; made = refl; count = refl }
digits (suc (suc (suc (suc (suc (suc (suc (suc m)))))))) h = absurd (omega arith)

-- a set of lanes 1 to n has n lanes
set_counted : (n : ℕ) → n - 3 + ones (lane_set n) ≡ n
unfolding ones ones_in
set_counted zero = refl
set_counted (suc zero) = refl
set_counted (suc (suc zero)) = refl
set_counted (suc (suc (suc n))) = omega arith

-- the lanes of a carriageway fit between its kerbs
pub lanes_fit : (w : ℕ) → 30 ≤ w → (lanes_in w - 3 + ones (lane_set (lanes_in w))) * lane_slices w ≤ 2 * w
lanes_fit w h = subst (λ n. n * lane_slices w ≤ 2 * w) (sym (set_counted (lanes_in w))) (fit w h)
