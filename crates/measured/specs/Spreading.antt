-- What the ordinate of a slice is, path by path: between two paths by their mean, outside them the nearest path's.
use Rattle.std.specs.Prelude.{◌≡◌, ℕ, ◌+◌, ◌-◌, ◌<◌, ◌≤◌, List, [], ◌∷◌, ℤ, pos, negsuc, slice_index, slice_index_or}
use Rattle.measured.specs.Laid.{Laid}
use Rattle.measured.specs.Spread.{between, spread}

-- past path i and up to path i + 1
abbrev pub BetweenPaths : Type 0
BetweenPaths = (n m : ℕ) (ps : List ℕ) (vs : List ℤ) (i j : ℕ) → Laid n m ps → i + 1 < m → slice_index ps i < j → j ≤ slice_index ps (i + 1)
    → spread m ps vs j ≡ between (slice_index ps i) (slice_index_or vs i (pos 0)) (slice_index ps (i + 1)) (slice_index_or vs (i + 1) (pos 0)) j

-- up to the first path
abbrev pub LeftOfPaths : Type 0
LeftOfPaths = (n m : ℕ) (ps : List ℕ) (vs : List ℤ) (j : ℕ) → Laid n m ps → j ≤ slice_index ps 0 → spread m ps vs j ≡ slice_index_or vs 0 (pos 0)

-- past the last path
abbrev pub RightOfPaths : Type 0
RightOfPaths = (n m : ℕ) (ps : List ℕ) (vs : List ℤ) (j : ℕ) → Laid n m ps → slice_index ps (m - 1) < j → spread m ps vs j ≡ slice_index_or vs (m - 1) (pos 0)

-- paths at slices 30 and 89 with the ordinates 0 and −1: slice 31 has −1
abbrev pub RoundedDown : Type 0
RoundedDown = spread 2 (30 ∷ 89 ∷ []) (pos 0 ∷ negsuc 0 ∷ []) 31 ≡ negsuc 0
