-- Which fault, if any, a header, a station, and a draft that is to be sealed are refused for: the first in the order of checks.
use Rattle.std.specs.Prelude.{◌≡◌, ℕ, ◌+◌, ◌-◌, Bool, cond, ◌&&◌, ◌||◌, List, [], ◌∷◌, ◌++◌, map, length, get_or, take, replicate, ℤ, pos, Ok, Err, ◌==◌, int_le, int_lt, nat_le, nat_lt, slice_index_or, unsigned_abs}
use Rattle.surface.specs.Stations.{place_fits}
use Rattle.measured.specs.Rows.{place_of, ordinates_of}
use Rattle.measured.specs.declared.row.Row.{Row}
use Rattle.surface.specs.Verdict.{Verdict, and_then, each_judged}
use Rattle.surface.specs.declared.fault.SurfaceFault.TheVariants.{Place, Ordinate, Short, Counts}

-- ---- a header: n slices, and the slices of the paths

-- path i lies on the deck, past the one before
abbrev pub path_judged : ℤ → List ℤ → ℕ → Verdict
path_judged n ps i =
    let p = get_or ps i (pos 0) in
    cond (int_lt p (pos 0) || (int_le n p || (nat_lt 0 i && int_le p (slice_index_or ps (i - 1) (pos 0))))) (Err (Counts 1 (i + 2))) (Ok tt)

abbrev pub header_judged : ℤ → List ℤ → Verdict
header_judged n ps =
    cond (int_lt n (pos 60) || (int_lt (pos 300) n || (nat_lt (length ps) 1 || nat_lt 8 (length ps)))) (Err (Counts 1 0))
    (each_judged (path_judged n ps) 0 (length ps))

-- the eight places for paths, the unused ones 0
abbrev pub laid_paths : List ℤ → List ℕ
laid_paths ps = map unsigned_abs ps ++ replicate (8 - length ps) 0

-- what a draft holds that was begun with n slices and these paths
pub record Begun (n : ℤ) (ps : List ℤ) (slices count : ℕ) (paths : List ℕ) (filled : ℕ) : Type 0 where
  pub slices_are : pos slices ≡ n
  pub count_is : count ≡ length ps
  pub paths_are : paths ≡ laid_paths ps
  pub none_filled : filled ≡ 0

-- ---- a station, and the rows filled

-- the ordinates of a record from a field on
abbrev pub ordinates_judged : ℕ → ℕ → List ℤ → Verdict
ordinates_judged record' f [] = Ok tt
ordinates_judged record' f (v ∷ vs) = cond (nat_lt 100000 (unsigned_abs v)) (Err (Ordinate record' f)) (ordinates_judged record' (f + 1) vs)

-- the first place is 0, and each other rises from the one before
abbrev pub rises_at : List Row → ℕ → Bool
rises_at rs k = cond (k == 0) (place_of rs k == 0) (nat_lt (place_of rs (k - 1)) (place_of rs k))

-- row k with its ordinates at m paths
abbrev pub row_judged : ℕ → List Row → ℕ → Verdict
row_judged m rs k = cond (rises_at rs k && nat_lt (place_of rs k) 200000) (ordinates_judged (k + 2) 2 (take m (ordinates_of rs k))) (Err (Place (k + 2) 1))

-- 64 rows are lent, the t filled ones are stations, and there are enough of them
abbrev pub seal_judged : ℕ → List Row → ℕ → Verdict
seal_judged m rs t = cond (nat_lt (length rs) 64) (Err (Short 0)) (and_then (each_judged (row_judged m rs) 0 t) (cond (nat_lt t 2) (Err (Counts 0 0)) (Ok tt)))

-- the place of the station before station k; 0 for the first
abbrev pub place_before : List Row → ℕ → ℕ
place_before rs k = cond (k == 0) 0 (place_of rs (k - 1))

-- station k of a draft with m paths
abbrev pub station_judged : ℕ → ℕ → List Row → ℤ → List ℤ → Verdict
station_judged m k rs z vs =
    cond (nat_le 64 k) (Err (Counts (k + 2) 0))
    (cond (nat_lt (length rs) 64 || nat_lt (length vs) m) (Err (Short (k + 2)))
    (cond (place_fits k (pos (place_before rs k)) z) (ordinates_judged (k + 2) 2 (take m vs)) (Err (Place (k + 2) 1))))

-- the row of a station: its place, and its ordinates at m paths in eight places, the unused ones 0
abbrev pub row_of : ℕ → ℤ → List ℤ → Row
row_of m z vs = record { place = unsigned_abs z; ordinates = take m vs ++ replicate (8 - length (take m vs)) (pos 0) }
