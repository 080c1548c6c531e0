-- What a figure or a drawing that is taken shows: its figure, its winner, and its four lists.
use Rattle.std.specs.Prelude.{◌≡◌, ℕ, ◌+◌, ◌-◌, ◌*◌, ◌<◌, true, List, take, drop, pos, Option, slice_index, slice_index_or}
use Rattle.card.specs.Bounds.{kerbs_fit, in_bounds}
use Rattle.surface.specs.Shape.{Lawful}
use Rattle.algebra.specs.Frac.{◌≤F◌, whole, ◌+F◌}
use Rattle.lines.specs.Areas.{area_of}
use Rattle.model.specs.Lanes.{breadth}
use Rattle.model.specs.Tandems.{no_tandem}
use Rattle.model.specs.declared.tandems.Tandem.{Tandem}
use Rattle.placing.specs.Kind.{Kind}
use Rattle.placing.specs.Placing.{Filled, lane_set}
use Rattle.placing.specs.Loaded.{Loads, loads_over, loaded, effect_from, Rated, Low}
use Rattle.statement.specs.Lanes.{Starts, owners_of}
use Rattle.statement.specs.Effects.{Setting, lane_count, lane_width, on_deck, Arrangement, Permitted, exact, Tandems, rounded_effect, allowance, handed_back}
use Rattle.statement.specs.Winners.{Winner}
use Rattle.statement.specs.Parts.{LoadsIn}

-- the tandem of each slice, in a list of them
abbrev pub tandem_in : List Tandem → ℕ → Tandem
tandem_in tandems x = slice_index_or tandems x no_tandem

-- A figure in the setting g, with the tandems of the lane starts and the owner's number of each slice.
pub record Figured {W : Type 0} (K : Kind W) (made : ℕ → ℕ → W) (g : Setting) (figure : ℕ) (tandems : ℕ → Tandem) (owners : List ℕ) : Type 0 where
  -- every permitted arrangement has an exact effect of at most the figure
  pub rivals : (x : Arrangement) → Permitted g x → exact g x ≤F whole (pos figure)
  -- the lanes that the owners show are the winner's, and the figure is their rounded effect;
  -- left open: which of the other lanes has the number 4 and which 5, since owners show both alike and every choice has the same effects (OwnersTell)
  pub known : Tandems g tandems
  pub starts : Starts
  pub shown : owners ≡ owners_of g.kerbs starts
  pub winner : Winner K made g tandems starts
  pub attained : figure ≡ rounded_effect g tandems starts
  -- the arrangement handed back is permitted, and its exact effect is within the allowance
  pub permitted : Permitted g (handed_back g tandems starts)
  pub near : whole (pos figure) ≤F exact g (handed_back g tandems starts) +F whole (pos (allowance g tandems starts))

-- what is lent to a figure or a drawing, before or after
pub record Lists (W : Type 0) : Type 0 where
  pub areas : List ℕ
  pub tandems : List Tandem
  pub bests : List (Option W)
  pub owners : List ℕ

-- areas: A of each carriageway slice
pub record AreasListed (g : Setting) (before after : List ℕ) : Type 0 where
  pub areas : (j : ℕ) → j < breadth g.kerbs → slice_index after j ≡ area_of g.surface (on_deck g j)
  pub beyond : drop (breadth g.kerbs) after ≡ drop (breadth g.kerbs) before

-- tandems: T and place for each lane start, and nothing after the last start
pub record TandemsListed (g : Setting) (before after : List Tandem) : Type 0 where
  pub starts : Tandems g (tandem_in after)
  pub rest : (x : ℕ) → x < breadth g.kerbs → breadth g.kerbs < x + lane_width g → tandem_in after x ≡ no_tandem
  pub beyond : drop (breadth g.kerbs) after ≡ drop (breadth g.kerbs) before

-- The four lists after a figure that is taken: areas, tandems, the best worth of each entry, and the winner's owners.
pub record Listed {W : Type 0} (K : Kind W) (made : ℕ → ℕ → W) (g : Setting) (figure : ℕ) (before after : Lists W) : Type 0 where
  pub areas : AreasListed g before.areas after.areas
  pub tandems : TandemsListed g before.tandems after.tandems
  pub bests : Filled K (loaded made (loads_over g.kerbs g.kind g.factors after.areas after.tandems)) 0 after.bests
  pub bests_beyond : drop (24 * (breadth g.kerbs + 1)) after.bests ≡ drop (24 * (breadth g.kerbs + 1)) before.bests
  pub owners : Figured K made g figure (tandem_in after.tandems) (take (breadth g.kerbs) after.owners)
  pub owners_beyond : drop (breadth g.kerbs) after.owners ≡ drop (breadth g.kerbs) before.owners

-- ---- from what is chosen to what is promised

-- areas and tandems as they are listed are what the placement counts with
abbrev pub ListsCount : Type 0
ListsCount = (g : Setting) (areas areas' : List ℕ) (tandems tandems' : List Tandem) → AreasListed g areas areas' → TandemsListed g tandems tandems'
    → LoadsIn g (tandem_in tandems') (loads_over g.kerbs g.kind g.factors areas' tandems')

-- the best placement gives the figure: the effect of the parts that won
abbrev pub RatedServes : {W : Type 0} → Kind W → (ℕ → ℕ → W) → Type 0
RatedServes {W} K made = (g : Setting) (tandems : ℕ → Tandem) (l : Loads) → LoadsIn g tandems l → Tandems g tandems → (w : W) (owners : List ℕ)
    → (r : Rated K made l (lane_set (lane_count g)) (lane_count g - 3) w owners) → Figured K made g (effect_from l 0 r.won.parts) tandems owners

-- and no sum of parts outgrows a machine number
abbrev pub ListsLow : Type 0
ListsLow = (g : Setting) → Lawful g.surface → kerbs_fit g.surface.slices g.kerbs ≡ true → in_bounds 40 40 g.factors ≡ true
    → (areas areas' : List ℕ) (tandems tandems' : List Tandem) → AreasListed g areas areas' → TandemsListed g tandems tandems'
    → Low (loads_over g.kerbs g.kind g.factors areas' tandems')
