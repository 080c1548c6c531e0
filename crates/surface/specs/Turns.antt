-- The turned shapes of a lawful shape are lawful.
use Rattle.std.specs.Prelude.{◌≡◌, ℕ, zero, suc, ◌+◌, ◌-◌, ◌<◌, ◌≤◌, ℤ, pos, negsuc, neg_ℤ, unsigned_abs, refl}
use Rattle.std.proofs.Common.{ap, arith}
use Rattle.surface.specs.Rising.{rises}
use Rattle.surface.specs.Shape.{Shape, Lawful, side_for_side, end_for_end, opposite}

-- what holds of a way of turning: as many slices and stations as before, and what is turned stays lawful
pub record TurnLaws (turned : Shape → Shape) : Type 0 where
  pub slices : (s : Shape) → (turned s).slices ≡ s.slices
  pub stations : (s : Shape) → (turned s).stations ≡ s.stations
  pub lawful : (s : Shape) → Lawful s → Lawful (turned s)

-- ---- side for side
pub side_lawful : (s : Shape) → Lawful s → Lawful (side_for_side s)
side_lawful s w = record {
  wide = w.wide;
  narrow = w.narrow;
  some = w.some;
  few = w.few;
  begins = w.begins;
  rises = w.rises;
  ends = w.ends;
  within = λ j k h i. w.within (s.slices - 1 - j) k (omega arith) i;
}

pub side_laws : TurnLaws side_for_side
side_laws = record { slices = λ s. refl; stations = λ s. refl; lawful = side_lawful }

-- ---- end for end
-- places rise from station to station
pub place_rises : (s : Shape) → Lawful s → (i k : ℕ) → i ≤ k → k < s.stations → s.place i ≤ s.place k
place_rises s w = rises s.place s.stations w.rises

pub end_lawful : (s : Shape) → Lawful s → Lawful (end_for_end s)
end_lawful s w = record {
  wide = w.wide;
  narrow = w.narrow;
  some = w.some;
  few = w.few;
  begins =
      let e : s.place (s.stations - 1 - 0) ≡ s.place (s.stations - 1) = ap s.place (omega arith) in
      omega arith;
  rises = λ k h.
      let m : ℕ = s.stations - 1 - (k + 1) in
      let e : s.place (m + 1) ≡ s.place (s.stations - 1 - k) = ap s.place (omega arith) in
      let r = w.rises m (omega arith) in
      let t = place_rises s w (s.stations - 1 - k) (s.stations - 1) (omega arith) (omega (arith, w.some)) in
      omega arith;
  ends = λ k h. omega (arith, w.ends (s.stations - 1) (omega arith));
  within = λ j k h i. w.within j (s.stations - 1 - k) h (omega arith);
}

pub end_laws : TurnLaws end_for_end
end_laws = record { slices = λ s. refl; stations = λ s. refl; lawful = end_lawful }

-- ---- opposite
pub abs_neg : (z : ℤ) → unsigned_abs (neg_ℤ z) ≡ unsigned_abs z
abs_neg (pos zero) = refl
abs_neg (pos (suc n)) = refl
abs_neg (negsuc n) = refl

pub opposite_lawful : (s : Shape) → Lawful s → Lawful (opposite s)
opposite_lawful s w = record {
  wide = w.wide;
  narrow = w.narrow;
  some = w.some;
  few = w.few;
  begins = w.begins;
  rises = w.rises;
  ends = w.ends;
  within = λ j k h i. simp abs_neg (w.within j k h i);
}

pub opposite_laws : TurnLaws opposite
opposite_laws = record { slices = λ s. refl; stations = λ s. refl; lawful = opposite_lawful }
