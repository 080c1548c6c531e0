-- What is held of a surface: places and ordinates in lists, a row of ordinates to a slice.
use Rattle.std.specs.Prelude.{◌≡◌, ℕ, ◌+◌, ◌<◌, ◌≤◌, List, [], length, get_or, ℤ, pos, slice_index, slice_index_or, unsigned_abs}
use Rattle.surface.specs.Shape.{Shape}
use Rattle.model.specs.Lanes.{wheels}
use Rattle.lines.specs.Lines.{Line}
use Rattle.lines.specs.Axles.{totalZ}

-- the line of n places and values
abbrev pub line_of : ℕ → List ℕ → List ℤ → Line
line_of n zs ws = record { count = n; place = λ k. slice_index zs k; value = λ k. slice_index_or ws k (pos 0) }

-- n places as the stations of a lawful surface have them
pub record Places (n : ℕ) (zs : List ℕ) : Type 0 where
  pub some : 2 ≤ n
  pub few : n ≤ 64
  pub begins : get_or zs 0 0 ≡ 0
  pub rises : (k : ℕ) → k + 1 < n → slice_index zs k < slice_index zs (k + 1)
  pub ends : (k : ℕ) → k < n → slice_index zs k < 200000

-- none of the first n values is above b
abbrev pub Values : ℕ → ℕ → List ℤ → Type 0
Values b n ws = (k : ℕ) → k < n → unsigned_abs (slice_index_or ws k (pos 0)) ≤ b

-- row j
abbrev pub row_of : List (List ℤ) → ℕ → List ℤ
row_of ys j = slice_index_or ys j []

-- the ordinates of `slices` slices from `first` on stand in rows
pub record HeightsRead (s : Shape) (first slices : ℕ) (ys : List (List ℤ)) : Type 0 where
  pub value : (j k : ℕ) → j < slices → k < s.stations → slice_index_or (row_of ys j) k (pos 0) ≡ s.ordinate (first + j) k

-- rows for so many slices, each of n ordinates
pub record Rows (n slices : ℕ) (ys : List (List ℤ)) : Type 0 where
  pub few : n ≤ 64
  pub all : slices ≤ length ys
  pub within : (j : ℕ) → j < slices → Values 100000 n (row_of ys j)

-- under the wheels of an axle at station k, in the lane of l slices from row x on
abbrev pub held_sum : List (List ℤ) → ℕ → ℕ → ℕ → ℤ
held_sum ys x l k = totalZ (λ j. slice_index_or (row_of ys (x + j)) k (pos 0)) (wheels l)

-- W of the lane of l slices from row x on, over n places
abbrev pub lane_line : ℕ → List ℕ → List (List ℤ) → ℕ → ℕ → Line
lane_line n zs ys x l = record { count = n; place = λ k. slice_index zs k; value = held_sum ys x l }
