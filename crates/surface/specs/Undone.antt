-- Turning a surface twice the same way gives the surface that it was.
use Rattle.std.specs.Prelude.{◌≡◌, ℕ, ◌<◌}
use Rattle.surface.specs.Shape.{Shape, Lawful, side_for_side, end_for_end, opposite}

-- two shapes that answer every question alike
pub record Alike (s t : Shape) : Type 0 where
  pub slices : s.slices ≡ t.slices
  pub stations : s.stations ≡ t.stations
  pub place : (k : ℕ) → k < t.stations → s.place k ≡ t.place k
  pub ordinate : (j k : ℕ) → j < t.slices → k < t.stations → s.ordinate j k ≡ t.ordinate j k

abbrev pub TurnsUndone : Type 0
TurnsUndone = (s : Shape) → Lawful s →
    Alike (side_for_side (side_for_side s)) s × Alike (end_for_end (end_for_end s)) s × Alike (opposite (opposite s)) s
