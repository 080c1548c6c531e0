-- The extent of a surface: its counts, its last place, and the range of its ordinates.
use Rattle.std.specs.Prelude.{◌≡◌, ℕ, ◌-◌, ◌<◌, ◌⊎◌, ℤ, ◌≤ℤ◌}
use Rattle.surface.specs.Shape.{Shape}
use Rattle.survey.specs.declared.extent.Extent.{Extent}
use Rattle.survey.specs.declared.extent.Range.{Range}

-- the least and the greatest of the values of f where P holds, each of them a value
pub record Spans {X : Type 0} (P : X → Type 0) (f : X → ℤ) (r : Range) : Type 0 where
  pub low : (x : X) → P x → r.least ≤ℤ f x
  pub high : (x : X) → P x → f x ≤ℤ r.greatest
  pub least_is : (x : X) × P x × (f x ≡ r.least)
  pub greatest_is : (x : X) × P x × (f x ≡ r.greatest)

-- one of the first n stations
abbrev pub Station : ℕ → ℕ → Type 0
Station n k = k < n

-- the place of an ordinate: one of the first m slices, and one of n stations
pub record Spot : Type 0 where
  pub slice : ℕ
  pub station : ℕ

abbrev pub On : ℕ → ℕ → Spot → Type 0
On m n x = (x.slice < m) × (x.station < n)

pub record Extends (s : Shape) (e : Extent) : Type 0 where
  pub slices : e.slices ≡ s.slices
  pub stations : e.stations ≡ s.stations
  pub last : e.last_place ≡ s.place (s.stations - 1)
  pub ordinates : Spans (On s.slices s.stations) (λ x. s.ordinate x.slice x.station) e.ordinates

-- the range of two ranges together
pub record Both (a b r : Range) : Type 0 where
  pub low_left : r.least ≤ℤ a.least
  pub low_right : r.least ≤ℤ b.least
  pub high_left : a.greatest ≤ℤ r.greatest
  pub high_right : b.greatest ≤ℤ r.greatest
  pub least_is : (r.least ≡ a.least) ⊎ (r.least ≡ b.least)
  pub greatest_is : (r.greatest ≡ a.greatest) ⊎ (r.greatest ≡ b.greatest)
