-- Each turn undoes itself.
use Rattle.std.proofs.Common.{◌≡◌, ℕ, ◌-◌, refl, ap, arith}
use Rattle.std.proofs.Math.IntN.{neg_ℤ-neg_ℤ}
use Rattle.surface.specs.Shape.{Shape, Lawful, side_for_side, end_for_end}
use Rattle.surface.specs.Turns.{place_rises}
use Rattle.surface.specs.Undone.{Alike, TurnsUndone}

sides_undone : (s : Shape) → Alike (side_for_side (side_for_side s)) s
sides_undone s = record {
  slices = refl;
  stations = refl;
  place = λ k h. refl;
  ordinate = λ j k h i. ap (λ n. s.ordinate n k) (let e : s.slices - 1 - (s.slices - 1 - j) ≡ j = omega arith in e);
}

ends_undone : (s : Shape) → Lawful s → Alike (end_for_end (end_for_end s)) s
ends_undone s w = record {
  slices = refl;
  stations = refl;
  place = λ k h.
      let n : ℕ = s.stations - 1 in
      let first : s.place (n - n) ≡ s.place 0 = ap s.place (omega arith) in
      let back : s.place (n - (n - k)) ≡ s.place k = ap s.place (omega arith) in
      let up = place_rises s w k n (omega arith) (omega (arith, w.some)) in
      omega (arith, w.begins);
  ordinate = λ j k h i. ap (s.ordinate j) (let e : s.stations - 1 - (s.stations - 1 - k) ≡ k = omega arith in e);
}

pub turns_undone : TurnsUndone
turns_undone s w = (sides_undone s, ends_undone s w, record { slices = refl; stations = refl; place = λ k h. refl; ordinate = λ j k h i. neg_ℤ-neg_ℤ (s.ordinate j k) })
