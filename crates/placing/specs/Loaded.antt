-- What the parts of a loaded carriageway count: tandems, uniform loads, and how near the left kerb the lanes lie.
use Rattle.std.specs.Prelude.{◌≡◌, ℕ, ◌+◌, ◌-◌, ◌*◌, ◌<◌, ◌≤◌, List, [], ◌∷◌, Some, Option, slice_index, slice_index_or}
use Rattle.algebra.specs.Sums.{total}
use Rattle.model.specs.Lanes.{breadth, lane_slices}
use Rattle.model.specs.Tandems.{no_tandem}
use Rattle.model.specs.Weights.{tandem_factor, uniform_factor, tandem_weight, uniform_weight}
use Rattle.model.specs.declared.lanes.Carriageway.{Carriageway}
use Rattle.model.specs.declared.owners.Owner.{Owner}
use Rattle.model.specs.declared.owners.Owner.TheVariants.{Remaining, Lane1, Lane2, Lane3, Other}
use Rattle.model.specs.declared.tandems.Tandem.{Tandem}
use Rattle.model.specs.declared.weights.Factors.{Factors}
use Rattle.model.specs.declared.weights.LoadKind.{LoadKind}
use Rattle.placing.specs.Kind.{Kind, Commutes}
use Rattle.placing.specs.Placing.{Road, width, Placement, Best, Won}

-- A of each slice, T of a lane by the slice at which it begins, and the loads with their factors.
pub record Loads : Type 0 where
  pub slices : ℕ
  pub lane : ℕ
  pub kind : LoadKind
  pub factors : Factors
  pub area : ℕ → ℕ
  pub top : ℕ → ℕ

-- of a carriageway, from lists of areas and tandems
abbrev pub loads_over : Carriageway → LoadKind → Factors → List ℕ → List Tandem → Loads
loads_over c kind f areas tandems = record {
  slices = breadth c;
  lane = lane_slices c.width;
  kind = kind;
  factors = f;
  area = λ j. slice_index areas j;
  top = λ j. (slice_index_or tandems j no_tandem).t;
}

-- A of n slices from j on
abbrev pub area_over : Loads → ℕ → ℕ → ℕ
area_over l j n = total n (λ i. l.area (j + i))

-- The rounded effect of a part that begins at slice j. The remaining area and other lanes have no tandem: it weighs nothing.
abbrev pub effect_of : Loads → Owner → ℕ → ℕ
effect_of l p j = tandem_weight l.kind l.factors p * l.top j + uniform_weight l.kind l.factors p * area_over l j (width l.lane p)

-- a lane's kerb count is the greater the further left it begins
abbrev pub kerb_of : Owner → ℕ → ℕ
kerb_of Remaining j = 0
kerb_of Lane1 j = 300 - j
kerb_of Lane2 j = 300 - j
kerb_of Lane3 j = 300 - j
kerb_of Other j = 300 - j

-- the carriageway by worths that are made of effects and kerb counts
abbrev pub loaded : {W : Type 0} → (ℕ → ℕ → W) → Loads → Road W
loaded made l = record { slices = l.slices; lane = l.lane; part = λ p j. made (effect_of l p j) (kerb_of p j) }

-- the rounded effect and the kerb count of parts, the first at slice j
abbrev pub effect_from : Loads → ℕ → List Owner → ℕ
effect_from l j [] = 0
effect_from l j (p ∷ ps) = effect_of l p j + effect_from l (j + width l.lane p) ps

abbrev pub kerb_from : Loads → ℕ → List Owner → ℕ
kerb_from l j [] = 0
kerb_from l j (p ∷ ps) = kerb_of p j + kerb_from l (j + width l.lane p) ps

-- The slices have the owners of the winner, which is worth w: its rounded effect with its kerb count,
-- and no placement, whatever the order of its lanes, has a greater rounded effect.
pub record Rated {W : Type 0} (K : Kind W) (made : ℕ → ℕ → W) (l : Loads) (m o : ℕ) (w : W) (own : List ℕ) : Type 0 where
  pub won : Won K (loaded made l) m o w own
  pub value : w ≡ made (effect_from l 0 won.parts) (kerb_from l 0 won.parts)
  pub rivals : (qs : List Owner) → Placement (loaded made l) 0 m o qs → effect_from l 0 qs ≤ effect_from l 0 won.parts

-- ---- bounds

-- the greatest A of a slice: 200,000 mm with both ordinates at 100,000
abbrev pub most_area : ℕ
most_area = 40000000000

-- the greatest T: 10,000 times eight wheels with their ordinates at 100,000
abbrev pub most_top : ℕ
most_top = 8000000000

-- what keeps every sum of parts within a machine number
pub record Low (l : Loads) : Type 0 where
  pub few : l.slices ≤ 300
  pub wide : 1 ≤ l.lane
  pub narrow : l.lane ≤ 60
  pub areas : (j : ℕ) → j < l.slices → l.area j ≤ most_area
  pub tops : (j : ℕ) → j < l.slices → l.top j ≤ most_top
  pub tandem_factors : (p : Owner) → tandem_factor l.factors p ≤ 200
  pub uniform_factors : (p : Owner) → uniform_factor l.factors p ≤ 200

-- ---- from the other kerb

-- the same loads with areas and tandems as they lie from the other kerb
pub record LoadsMirrored (l k : Loads) : Type 0 where
  pub slices : k.slices ≡ l.slices
  pub lane : k.lane ≡ l.lane
  pub kind : k.kind ≡ l.kind
  pub factors : k.factors ≡ l.factors
  pub area : (j : ℕ) → j < l.slices → k.area (l.slices - 1 - j) ≡ l.area j
  pub top : (j : ℕ) → j + l.lane ≤ l.slices → k.top (l.slices - j - l.lane) ≡ l.top j

-- the best worth over the loads from the other kerb is w too, where worths may be added in either order and do not count the kerb
abbrev pub SameLoads : {W : Type 0} → Kind W → (ℕ → ℕ → W) → Loads → ℕ → ℕ → W → Type 0
SameLoads {W} K made l m o w = Commutes K → ((e b c : ℕ) → made e b ≡ made e c) → (k : Loads) → LoadsMirrored l k → (s : Option W) → Best K (loaded made k) 0 m o s → s ≡ Some w
