-- The stations that rows hold, and the surface that they make.
use Rattle.std.specs.Prelude.{◌≡◌, ℕ, ◌+◌, ◌<◌, ◌≤◌, List, [], ◌∷◌, length, get_or, replicate, ℤ, pos, slice_index_or, unsigned_abs}
use Rattle.surface.specs.Shape.{Shape}
use Rattle.measured.specs.Spread.{spread}
use Rattle.measured.specs.declared.row.Row.{Row}

abbrev pub no_row : Row
no_row = record { place = 0; ordinates = [] }

abbrev pub place_of : List Row → ℕ → ℕ
place_of rs k = (get_or rs k no_row).place

abbrev pub ordinates_of : List Row → ℕ → List ℤ
ordinates_of rs k = (get_or rs k no_row).ordinates

-- the first t rows are stations with an ordinate at each of m paths
abbrev pub Filled : ℕ → List Row → Type 0
Filled t rs =
    ((2 ≤ t) × (t ≤ 64) × (t ≤ length rs) × (place_of rs 0 ≡ 0))
    × ((k : ℕ) → k + 1 < t → place_of rs k < place_of rs (k + 1))
    × ((k : ℕ) → k < t → place_of rs k < 200000)

-- the ordinates of the first t rows, at each of m paths, are in range
abbrev pub Ranged : ℕ → ℕ → List Row → Type 0
Ranged m t rs = (i k : ℕ) → i < m → k < t → unsigned_abs (slice_index_or (ordinates_of rs k) i (pos 0)) ≤ 100000

abbrev pub rows_shape : ℕ → ℕ → List ℕ → ℕ → List Row → Shape
rows_shape n m ps t rs = record {
  slices = n;
  stations = t;
  place = place_of rs;
  ordinate = λ j k. spread m ps (ordinates_of rs k) j;
}

-- two stations 1 mm apart, with every ordinate 0
abbrev pub level_rows : List Row
level_rows = record { place = 0; ordinates = replicate 8 (pos 0) } ∷ record { place = 1; ordinates = replicate 8 (pos 0) } ∷ []
