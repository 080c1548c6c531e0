-- A of a slice: the loaded area, segment by segment.
use Rattle.std.specs.Prelude.{◌≡◌, ℕ, ◌+◌, ◌-◌, pos}
use Rattle.algebra.specs.Frac.{Frac, ◌≤F◌, whole, ◌+F◌}
use Rattle.algebra.specs.Sums.{total, totalF}
use Rattle.surface.specs.Shape.{Shape}
use Rattle.lines.specs.Lines.{Line}
use Rattle.lines.specs.Segments.{Loading, loaded_area, where_positive, rounded, sign_changes}

-- the stations of a slice
abbrev pub row : Shape → ℕ → Line
row s j = record { count = s.stations; place = s.place; value = s.ordinate j }

-- the length of segment k, from station k to the next
abbrev pub segment_length : Line → ℕ → ℕ
segment_length d k = d.place (k + 1) - d.place k

-- what the first n segments count for
abbrev pub area_to : Line → ℕ → ℕ
area_to d n = total n (λ k. rounded (segment_length d k) (d.value k) (d.value (k + 1)))

-- A of slice j
abbrev pub area_of : Shape → ℕ → ℕ
area_of s j = area_to (row s j) (s.stations - 1)

-- twice the signed area of the loadings of slice j, one to a segment
abbrev pub loaded_on : Shape → ℕ → (ℕ → Loading) → Frac
loaded_on s j f = totalF (s.stations - 1) (λ k. loaded_area (segment_length (row s j) k) (s.ordinate j k) (s.ordinate j (k + 1)) (f k))

-- slice j loaded wherever its ordinate is positive
abbrev pub all_positive : Shape → ℕ → ℕ → Loading
all_positive s j k = where_positive (s.ordinate j k) (s.ordinate j (k + 1))

-- how often the ordinate of slice j changes its sign inside a segment
abbrev pub changes_of : Shape → ℕ → ℕ
changes_of s j = total (s.stations - 1) (λ k. sign_changes (s.ordinate j k) (s.ordinate j (k + 1)))

-- r is A of slice j: no loading has a greater area, and loading wherever the ordinate is positive comes near it
pub record IsArea (s : Shape) (j r : ℕ) : Type 0 where
  pub value : r ≡ area_of s j
  pub bound : (f : ℕ → Loading) → loaded_on s j f ≤F whole (pos r)
  pub near : whole (pos r) ≤F loaded_on s j (all_positive s j) +F whole (pos (changes_of s j))
