-- What follows of A and T: they are determined, turning the surface keeps them, and the trial decks.
use Rattle.std.specs.Prelude.{◌≡◌, ℕ, ◌+◌, ◌-◌, ◌*◌, ◌<◌, ◌≤◌, cond, ℤ, pos, negsuc, Some, None, Option, ◌==◌}
use Rattle.surface.specs.Shape.{Shape, Lawful, end_for_end, side_for_side}
use Rattle.lines.specs.Areas.{area_of, IsArea}
use Rattle.lines.specs.Lines.{Line, Rising, last, Stands, IsTandem}
use Rattle.lines.specs.Axles.{axle_line}

-- what the rule counts for a slice is A
abbrev pub AreasStand : Type 0
AreasStand = (s : Shape) (j : ℕ) → IsArea s j (area_of s j)

-- T and its place are fixed by the line
abbrev pub TandemUnique : Type 0
TandemUnique = (d : Line) (t u : ℕ) (p q : Option ℕ) → IsTandem d t p → IsTandem d u q → (t ≡ u) × (p ≡ q)

-- every line that rises has a T
abbrev pub TandemExists : Type 0
TandemExists = (d : Line) → Rising d → (t : ℕ) × (p : Option ℕ) × IsTandem d t p

-- there is a tandem just where T is positive
pub record TandemPositive : Type 0 where
  pub none : (d : Line) (t : ℕ) → IsTandem d t None → t ≡ 0
  pub some : (d : Line) (t c : ℕ) → IsTandem d t (Some c) → 0 < t

-- ---- turned surfaces
abbrev pub AreaSideForSide : Type 0
AreaSideForSide = (s : Shape) (j : ℕ) → j < s.slices → area_of (side_for_side s) (s.slices - 1 - j) ≡ area_of s j

abbrev pub AreaEndForEnd : Type 0
AreaEndForEnd = (s : Shape) → Lawful s → (j : ℕ) → area_of (end_for_end s) j ≡ area_of s j

-- the mirrored lane of the mirrored surface has the same T at the same place
abbrev pub TandemSideForSide : Type 0
TandemSideForSide = (s : Shape) → Lawful s → (a l t : ℕ) (p : Option ℕ) → 54 ≤ l → a + l ≤ s.slices
    → IsTandem (axle_line s a l) t p → IsTandem (axle_line (side_for_side s) (s.slices - a - l) l) t p

abbrev pub TandemEndForEnd : Type 0
TandemEndForEnd = (s : Shape) → Lawful s → (a l t u : ℕ) (p q : Option ℕ) → IsTandem (axle_line s a l) t p → IsTandem (axle_line (end_for_end s) a l) u q → t ≡ u

pub record Turning : Type 0 where
  pub area_sides : AreaSideForSide
  pub area_ends : AreaEndForEnd
  pub tandem_sides : TandemSideForSide
  pub tandem_ends : TandemEndForEnd

-- ---- trial decks
-- one segment of 1,000 mm, from v to u
abbrev pub one_metre : ℤ → ℤ → Shape
one_metre v u = record { slices = 60; stations = 2; place = λ k. 1000 * k; ordinate = λ j k. cond (k == 0) v u }

pub record Decks : Type 0 where
  pub falling : (j : ℕ) → area_of (one_metre (pos 2) (negsuc 0)) j ≡ 1334
  pub halving : (j : ℕ) → area_of (one_metre (pos 1) (negsuc 0)) j ≡ 500
  pub hanging : (j : ℕ) → area_of (one_metre (pos 0) (negsuc 0)) j ≡ 0
  -- a last place of 1,199 leaves no room for a tandem, and one of 1,200 for a rear axle at 0 alone
  pub none_fits : (d : Line) → last d ≡ 1199 → (a b : ℕ) → Stands d a b → ⊥
  pub no_tandem : (d : Line) → last d ≡ 1199 → (t : ℕ) (p : Option ℕ) → IsTandem d t p → (t ≡ 0) × (p ≡ None)
  pub one_fits : (d : Line) → last d ≡ 1200 → (a b : ℕ) → Stands d a b → a ≡ 0
