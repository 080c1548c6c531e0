-- The surface turned side for side and end for end: what is asked over it, and what stays the same.
use Rattle.std.specs.Prelude.{◌≡◌, ℕ, ◌-◌, ◌*◌, true, Some, None, Option}
use Rattle.surface.specs.Shape.{Lawful, side_for_side, end_for_end}
use Rattle.card.specs.Bounds.{kerbs_fit}
use Rattle.model.specs.Lanes.{breadth, lane_slices, mirror}
use Rattle.model.specs.declared.lanes.Carriageway.{Carriageway}
use Rattle.model.specs.declared.tandems.Tandem.{Tandem}
use Rattle.lines.specs.Segments.{Loading}
use Rattle.statement.specs.Lanes.{Starts, Laid}
use Rattle.statement.specs.Effects.{Setting, Place, Arrangement, Permitted, Tandems, rounded_effect}

-- what is asked over the surface turned: where the sides turn, the kerbs are mirrored
abbrev pub sides_turned : Setting → Setting
sides_turned g = record { surface = side_for_side g.surface; kerbs = mirror g.surface.slices g.kerbs; factors = g.factors; kind = g.kind }

abbrev pub ends_turned : Setting → Setting
ends_turned g = record { surface = end_for_end g.surface; kerbs = g.kerbs; factors = g.factors; kind = g.kind }

-- each lane as far from the left kerb as it was from the right
abbrev pub facing : Carriageway → Starts → Starts
facing k starts i = breadth k - lane_slices k.width - starts i

-- the arrangement as it lies after the turn side for side
abbrev pub sides_arranged : Setting → Arrangement → Arrangement
sides_arranged g x = record { starts = facing g.kerbs x.starts; tandem = x.tandem; load = λ j. x.load (breadth g.kerbs - 1 - j) }

-- the rear place of a tandem that is met from the other end
abbrev pub other_end : ℕ → Option Place → Option Place
other_end last None = None
other_end last (Some p) = Some (record { num = last * p.den - p.num - 1200 * p.den; den = p.den })

-- after the turn end for end, with any loadings of the segments
abbrev pub ends_arranged : Setting → Arrangement → (ℕ → ℕ → Loading) → Arrangement
ends_arranged g x load = record { starts = x.starts; tandem = λ i. other_end (g.surface.place (g.surface.stations - 1)) (x.tandem i); load = load }

abbrev pub SidesPermitted : Type 0
SidesPermitted = (g : Setting) (x : Arrangement) → Permitted g x → Permitted (sides_turned g) (sides_arranged g x)

abbrev pub EndsPermitted : Type 0
EndsPermitted = (g : Setting) → Lawful g.surface → (x : Arrangement) (load : ℕ → ℕ → Loading) → Permitted g x → Permitted (ends_turned g) (ends_arranged g x load)

-- lanes that are laid keep their rounded effect
abbrev pub SidesKeep : Type 0
SidesKeep = (g : Setting) → Lawful g.surface → kerbs_fit g.surface.slices g.kerbs ≡ true → (tandems others : ℕ → Tandem) → Tandems g tandems → Tandems (sides_turned g) others
    → (starts : Starts) → Laid g.kerbs starts → rounded_effect (sides_turned g) others (facing g.kerbs starts) ≡ rounded_effect g tandems starts

abbrev pub EndsKeep : Type 0
EndsKeep = (g : Setting) → Lawful g.surface → (tandems others : ℕ → Tandem) → Tandems g tandems → Tandems (ends_turned g) others
    → (starts : Starts) → Laid g.kerbs starts → rounded_effect (ends_turned g) others starts ≡ rounded_effect g tandems starts
