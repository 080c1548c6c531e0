-- The notional lanes of a carriageway: how many and how wide they are, and where an axle's wheels stand in one.
use Rattle.std.specs.Prelude.{ℕ, ◌+◌, ◌-◌, ◌*◌, ◌/◌, cond, List, [], ◌∷◌, nat_lt}
use Rattle.model.specs.declared.lanes.Carriageway.{Carriageway}

-- how many slices the carriageway has: two to a decimetre
abbrev pub breadth : Carriageway → ℕ
breadth c = 2 * c.width

-- how it lies on a deck of n slices that is turned side for side
abbrev pub mirror : ℕ → Carriageway → Carriageway
mirror n c = record { first = n - c.first - breadth c; width = c.width }

-- the number of lanes, by the width in decimetres
abbrev pub lanes_in : ℕ → ℕ
lanes_in w = cond (nat_lt w 54) 1 (cond (nat_lt w 60) 2 (w / 30))

-- how many slices a lane has, by the width in decimetres
abbrev pub lane_slices : ℕ → ℕ
lane_slices w = cond (nat_lt w 54) 60 (cond (nat_lt w 60) w 60)

-- the slices of a lane of l slices on which the wheels of an axle stand
abbrev pub wheels : ℕ → List ℕ
wheels l = ((l - 1) / 2 - 20) ∷ (l / 2 - 20) ∷ ((l - 1) / 2 + 20) ∷ (l / 2 + 20) ∷ []
