-- What a placement of lanes is, what it is worth, and which one is chosen.
use Rattle.std.specs.Prelude.{◌≡◌, ℕ, zero, suc, ◌+◌, ◌*◌, ◌/◌, ◌%◌, ◌^◌, ◌<◌, ◌≤◌, false, cond, ◌⊎◌, List, [], ◌∷◌, ◌++◌, replicate, None, Option, MatchOption, ◌==◌, slice_index_or}
use Rattle.model.specs.Owners.{number_of}
use Rattle.model.specs.declared.owners.Owner.{Owner}
use Rattle.model.specs.declared.owners.Owner.TheVariants.{Remaining, Lane1, Lane2, Lane3, Other}
use Rattle.placing.specs.Kind.{Kind}

-- A carriageway of so many slices, lanes of so many slices, and what a part is worth, by its owner and its first slice.
pub record Road (W : Type 0) : Type 0 where
  pub slices : ℕ
  pub lane : ℕ
  pub part : Owner → ℕ → W

-- ---- placements

-- how many slices a part has: a remaining slice is one, and a lane has L
abbrev pub width : ℕ → Owner → ℕ
width L Remaining = 1
width L Lane1 = L
width L Lane2 = L
width L Lane3 = L
width L Other = L

-- A placement is written as the list of its parts' owners, from the left: this many slices.
abbrev pub span : ℕ → List Owner → ℕ
span L [] = 0
span L (p ∷ ps) = width L p + span L ps

-- the number of the owner of each slice
abbrev pub owners : ℕ → List Owner → List ℕ
owners L [] = []
owners L (p ∷ ps) = replicate (width L p) (number_of p) ++ owners L ps

-- 1 where the two are one owner
abbrev pub hit : Owner → Owner → ℕ
hit p k = cond (number_of p == number_of k) 1 0

-- how many parts have the owner k
abbrev pub times : Owner → List Owner → ℕ
times k [] = 0
times k (p ∷ ps) = hit p k + times k ps

-- the parts hold each lane of the set m (1, 2 and 4 for lanes 1, 2 and 3) once, no other of these, and o other lanes
pub record Holds (m o : ℕ) (ps : List Owner) : Type 0 where
  pub first : times Lane1 ps ≡ m % 2
  pub second : times Lane2 ps ≡ m / 2 % 2
  pub third : times Lane3 ps ≡ m / 4 % 2
  pub others : times Other ps ≡ o

-- lanes 1 to n as such a set, in which lanes from 4 up are others
abbrev pub lane_set : ℕ → ℕ
lane_set zero = 0
lane_set (suc zero) = 1
lane_set (suc (suc zero)) = 3
lane_set (suc (suc (suc n))) = 7

-- the parts fill the slices from j to the end, and hold the lanes that are to be placed: in whatever order
pub record Placement {W : Type 0} (R : Road W) (j m o : ℕ) (ps : List Owner) : Type 0 where
  pub covers : j + span R.lane ps ≡ R.slices
  pub holds : Holds m o ps

-- ---- what they are worth

-- the sum of the parts' worths, the first part at slice j
abbrev pub worth : {W : Type 0} → Kind W → Road W → ℕ → List Owner → W
worth K R j [] = K.zero
worth K R j (p ∷ ps) = K.sum (R.part p j) (worth K R (j + width R.lane p) ps)

-- r is the greatest f of what P allows, or absent where it allows nothing
abbrev pub Greatest : {W X : Type 0} → Kind W → (X → Type 0) → (X → W) → Option W → Type 0
Greatest {W} {X} K P f r = MatchOption r ((x : X) → P x → ⊥) (λ w. ((x : X) × P x × (f x ≡ w)) × ((x : X) → P x → K.below w (f x) ≡ false))

-- r is the worth of some placement and no placement's worth is above it, or absent where there is none
abbrev pub Best : {W : Type 0} → Kind W → Road W → ℕ → ℕ → ℕ → Option W → Type 0
Best K R j m o r = Greatest K (Placement R j m o) (worth K R j) r

-- every entry from number i on is the best of its slice, lane set and others
abbrev pub Filled : {W : Type 0} → Kind W → Road W → ℕ → List (Option W) → Type 0
Filled K R i bs = (j m o : ℕ) → j ≤ R.slices → m < 8 → o < 3 → i ≤ 24 * j + 3 * m + o → Best K R j m o (slice_index_or bs (24 * j + 3 * m + o) None)

-- each part weighs so little that the sum over 512 slices fits a machine number
pub record Bounded {W : Type 0} (K : Kind W) (R : Road W) : Type 0 where
  pub few : R.slices ≤ 512
  pub wide : 1 ≤ R.lane
  pub narrow : R.lane ≤ 512
  pub light : (p : Owner) (j : ℕ) → j + width R.lane p ≤ R.slices → K.weight (R.part p j) ≤ width R.lane p * 2 ^ 54

-- ---- which one is chosen

-- the first list comes no later than the second, by their first difference
abbrev pub Before : List ℕ → List ℕ → Type 0
Before [] ys = Unit {0}
Before (x ∷ xs) [] = ⊥
Before (x ∷ xs) (y ∷ ys) = (x < y) ⊎ ((x ≡ y) × Before xs ys)

-- a placement of the greatest worth, and of equals the one whose owners come first, slice by slice from the left
pub record Chosen {W : Type 0} (K : Kind W) (R : Road W) (j m o : ℕ) (ps : List Owner) : Type 0 where
  pub placed : Placement R j m o ps
  pub greatest : (qs : List Owner) → Placement R j m o qs → K.below (worth K R j ps) (worth K R j qs) ≡ false
  pub first : (qs : List Owner) → Placement R j m o qs → worth K R j qs ≡ worth K R j ps → Before (owners R.lane ps) (owners R.lane qs)

-- the slices have the owners of a chosen placement, which is worth w, and no other owners are chosen
pub record Won {W : Type 0} (K : Kind W) (R : Road W) (m o : ℕ) (w : W) (own : List ℕ) : Type 0 where
  pub parts : List Owner
  pub chosen : Chosen K R 0 m o parts
  pub value : worth K R 0 parts ≡ w
  pub same : own ≡ owners R.lane parts
  pub unique : (qs : List Owner) → Chosen K R 0 m o qs → owners R.lane qs ≡ own
