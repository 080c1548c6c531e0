-- An arrangement and its mirror: permitted together, of the same exact effect, and what is mirrored twice lies as it did.
use Rattle.std.specs.Prelude.{◌≡◌, ℕ, ◌+◌, ◌-◌, ◌*◌, ◌<◌, ◌≤◌, true, List, [], ◌∷◌, Some}
use Rattle.algebra.specs.Frac.{Same}
use Rattle.surface.specs.Shape.{Lawful}
use Rattle.card.specs.Bounds.{kerbs_fit}
use Rattle.model.specs.Lanes.{breadth}
use Rattle.lines.specs.Segments.{Stretch, Loading}
use Rattle.statement.specs.Lanes.{Numbered}
use Rattle.statement.specs.Effects.{Setting, lane_width, Place, Arrangement, Permitted, exact}
use Rattle.statement.specs.Permits.{stretch}
use Rattle.statement.specs.Turns.{sides_turned, ends_turned, sides_arranged, ends_arranged}

-- every lane lies inside the kerbs
abbrev pub InsideKerbs : Setting → Arrangement → Type 0
InsideKerbs g x = (i : ℕ) → Numbered g.kerbs i → x.starts i + lane_width g ≤ breadth g.kerbs

-- the second axle of every tandem is not past the last place
abbrev pub BeforeEnd : Setting → Arrangement → Type 0
BeforeEnd g x = (i : ℕ) (p : Place) → Numbered g.kerbs i → x.tandem i ≡ Some p → p.num + 1200 * p.den ≤ g.surface.place (g.surface.stations - 1) * p.den

pub record SidesMirrored (g : Setting) (x : Arrangement) : Type 0 where
  pub there : Permitted g x → Permitted (sides_turned g) (sides_arranged g x)
  pub back : Permitted (sides_turned g) (sides_arranged g x) → Permitted g x
  -- mirrored twice: the same kerbs, lane starts, tandems and loads
  pub kerbs : (sides_turned (sides_turned g)).kerbs ≡ g.kerbs
  pub starts : (i : ℕ) → Numbered g.kerbs i → (sides_arranged (sides_turned g) (sides_arranged g x)).starts i ≡ x.starts i
  pub tandems : (i : ℕ) → (sides_arranged (sides_turned g) (sides_arranged g x)).tandem i ≡ x.tandem i
  pub loads : (j : ℕ) → j < breadth g.kerbs → (sides_arranged (sides_turned g) (sides_arranged g x)).load j ≡ x.load j

pub record EndsMirrored (g : Setting) (x : Arrangement) (load again : ℕ → ℕ → Loading) : Type 0 where
  pub there : Permitted g x → Permitted (ends_turned g) (ends_arranged g x load)
  pub back : Permitted (ends_turned g) (ends_arranged g x load) → Permitted g x
  -- mirrored twice: the same lane starts and places of tandems
  pub starts : (i : ℕ) → (ends_arranged (ends_turned g) (ends_arranged g x load) again).starts i ≡ x.starts i
  pub tandems : (i : ℕ) → Numbered g.kerbs i → (ends_arranged (ends_turned g) (ends_arranged g x load) again).tandem i ≡ x.tandem i

-- and the mirror has the same exact effect
abbrev pub SidesExact : Type 0
SidesExact = (g : Setting) → Lawful g.surface → kerbs_fit g.surface.slices g.kerbs ≡ true → (x : Arrangement) → InsideKerbs g x → Same (exact (sides_turned g) (sides_arranged g x)) (exact g x)

-- the stretches of a segment of m parts as they are met from its other end, before those that were met already
abbrev pub flipped : ℕ → List Stretch → List Stretch → List Stretch
flipped m [] met = met
flipped m (s ∷ l) met = flipped m l (stretch (m - s.to) (m - s.from) ∷ met)

-- the one loading is the other, met from the other end
pub record Flipped (here there : Loading) : Type 0 where
  pub parts : there.parts ≡ here.parts
  pub stretches : there.stretches ≡ flipped here.parts here.stretches []

-- every carriageway slice, segment by segment from the other end
abbrev pub LoadsFlipped : Setting → (ℕ → ℕ → Loading) → (ℕ → ℕ → Loading) → Type 0
LoadsFlipped g here there = (j k : ℕ) → j < breadth g.kerbs → k < g.surface.stations - 1 → Flipped (here j (g.surface.stations - 1 - 1 - k)) (there j k)

abbrev pub EndsExact : Type 0
EndsExact = (g : Setting) → Lawful g.surface → (x : Arrangement) → Permitted g x → (load : ℕ → ℕ → Loading) → LoadsFlipped g x.load load → Same (exact (ends_turned g) (ends_arranged g x load)) (exact g x)

pub record MirrorsStand : Type 0 where
  pub sides : (g : Setting) → kerbs_fit g.surface.slices g.kerbs ≡ true → (x : Arrangement) → InsideKerbs g x → SidesMirrored g x
  pub ends : (g : Setting) → Lawful g.surface → (x : Arrangement) → BeforeEnd g x → (load again : ℕ → ℕ → Loading) → EndsMirrored g x load again
  pub sides_exact : SidesExact
  pub flips : (here : Loading) → (there : Loading) × Flipped here there
  pub ends_exact : EndsExact
