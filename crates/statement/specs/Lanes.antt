-- Where the notional lanes of a carriageway may lie, and which slices they own.
use Rattle.std.specs.Prelude.{ℕ, zero, suc, ◌+◌, ◌<◌, ◌≤◌, cond, ◌&&◌, ◌⊎◌, List, [], ◌∷◌, nat_le, nat_lt}
use Rattle.model.specs.Lanes.{breadth, lanes_in, lane_slices}
use Rattle.model.specs.Owners.{number_of}
use Rattle.model.specs.declared.lanes.Carriageway.{Carriageway}
use Rattle.model.specs.declared.owners.Owner.{Owner}
use Rattle.model.specs.declared.owners.Owner.TheVariants.{Remaining, Lane1, Lane2, Lane3, Other}

-- The first slice of each lane, by the lane's number from 1 up; slices count from the left kerb.
abbrev pub Starts : Type 0
Starts = ℕ → ℕ

-- the carriageway has a lane of this number
abbrev pub Numbered : Carriageway → ℕ → Type 0
Numbered k i = (1 ≤ i) × (i ≤ lanes_in k.width)

-- Lanes may lie in any order: they are inside the kerbs, and no two overlap.
pub record Laid (k : Carriageway) (starts : Starts) : Type 0 where
  pub inside : (i : ℕ) → Numbered k i → starts i + lane_slices k.width ≤ breadth k
  pub apart : (i j : ℕ) → Numbered k i → Numbered k j → i < j → (starts i + lane_slices k.width ≤ starts j) ⊎ (starts j + lane_slices k.width ≤ starts i)

-- the number of the lane, of those up to n, that holds slice j; 0 where none does
abbrev pub lane_at : ℕ → Starts → ℕ → ℕ → ℕ
lane_at l starts zero j = 0
lane_at l starts (suc n) j = cond (nat_le (starts (suc n)) j && nat_lt j (starts (suc n) + l)) (suc n) (lane_at l starts n j)

-- the owner that the lane of this number is; 0 stands for the remaining area
abbrev pub owner_of : ℕ → Owner
owner_of zero = Remaining
owner_of (suc zero) = Lane1
owner_of (suc (suc zero)) = Lane2
owner_of (suc (suc (suc zero))) = Lane3
owner_of (suc (suc (suc (suc n)))) = Other

-- the owner of slice j of the carriageway
abbrev pub owner_at : Carriageway → Starts → ℕ → Owner
owner_at k starts j = owner_of (lane_at (lane_slices k.width) starts (lanes_in k.width) j)

-- f 0, f 1, … , f (n - 1)
abbrev pub listed : {X : Type 0} → ℕ → (ℕ → X) → List X
listed zero f = []
listed (suc n) f = f 0 ∷ listed n (λ i. f (suc i))

-- the number of the owner of each slice, from the left kerb
abbrev pub owners_of : Carriageway → Starts → List ℕ
owners_of k starts = listed (breadth k) (λ j. number_of (owner_at k starts j))
