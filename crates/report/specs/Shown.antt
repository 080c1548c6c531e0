-- What a layout shows of its lanes: where lanes 1 to 3 begin, where their tandems stand, and where the other lanes begin.
use Rattle.std.specs.Prelude.{◌≡◌, ℕ, ◌+◌, ◌%◌, ◌<◌, cond, List, length, Some, None, Option, ◌==◌, ◌≢◌, slice_index}
use Rattle.algebra.specs.Sums.{total}
use Rattle.model.specs.declared.tandems.Tandem.{Tandem}
use Rattle.statement.specs.Figures.{tandem_in}

-- the first slice that the lane of this number owns
abbrev pub StartsAt : List ℕ → ℕ → Option ℕ → Type 0
StartsAt owners lane None = (j : ℕ) → j < 300 → slice_index owners j ≢ lane
StartsAt owners lane (Some j) = (j < 300) × (slice_index owners j ≡ lane) × ((i : ℕ) → i < j → slice_index owners i ≢ lane)

-- the rear place of the tandem of a lane that begins there
abbrev pub place_from : List Tandem → Option ℕ → Option ℕ
place_from tandems None = None
place_from tandems (Some j) = (tandem_in tandems j).place

-- 1 for a slice of this owner, else 0
abbrev pub owned : List ℕ → ℕ → ℕ → ℕ
owned owners o j = cond (slice_index owners j == o) 1 0

-- how many of the first n slices have the owner o
unfoldable pub count_of : List ℕ → ℕ → ℕ → ℕ
count_of owners n o = total n (owned owners o)

-- A slice begins an other lane: it belongs to one, and the slices of other lanes before it fill whole lanes of this width.
pub record Begins (owner before width : ℕ) : Type 0 where
  pub other : owner ≡ 4
  pub wide : 0 < width
  pub filled : before % width ≡ 0

-- slice j begins an other lane; every lane is as wide as lane 1
abbrev pub BeginsOther : List ℕ → ℕ → Type 0
BeginsOther owners j = Begins (slice_index owners j) (count_of owners j 4) (count_of owners 300 1)

-- all numbers below n that P holds of, rising, so each of them once
pub record Listed (P : ℕ → Type 0) (n : ℕ) (xs : List ℕ) : Type 0 where
  pub below : (k : ℕ) → k < length xs → slice_index xs k < n
  pub each : (k : ℕ) → k < length xs → P (slice_index xs k)
  pub rising : (k : ℕ) → k + 1 < length xs → slice_index xs k < slice_index xs (k + 1)
  pub all : (j : ℕ) → j < n → P j → (k : ℕ) × (k < length xs) × (slice_index xs k ≡ j)

-- the first slices of the other lanes, from the left
abbrev pub OtherStarts : List ℕ → List ℕ → Type 0
OtherStarts owners starts = Listed (BeginsOther owners) 300 starts
