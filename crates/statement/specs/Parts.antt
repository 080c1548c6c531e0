-- Lanes as parts from the left: the same lanes by their numbers and by the owners of the parts.
use Rattle.std.specs.Prelude.{◌≡◌, ℕ, suc, ◌+◌, ◌-◌, ◌<◌, ◌≤◌, List, [], ◌∷◌}
use Rattle.algebra.specs.Sums.{total}
use Rattle.lines.specs.Areas.{area_of}
use Rattle.model.specs.Lanes.{breadth, lanes_in, lane_slices}
use Rattle.model.specs.declared.lanes.Carriageway.{Carriageway}
use Rattle.model.specs.declared.owners.Owner.{Owner}
use Rattle.model.specs.declared.owners.Owner.TheVariants.{Remaining}
use Rattle.model.specs.declared.tandems.Tandem.{Tandem}
use Rattle.placing.specs.Kind.{Kind}
use Rattle.placing.specs.Placing.{width, span, owners, Holds, lane_set, Chosen}
use Rattle.placing.specs.Loaded.{Loads, loaded, effect_from}
use Rattle.statement.specs.Lanes.{Starts, Laid, owner_of, owners_of}
use Rattle.statement.specs.Effects.{Setting, lane_width, on_deck, rounded_effect}
use Rattle.statement.specs.Winners.{Winner}

-- c of each part by its owner and its first slice, the first part at slice j
abbrev pub part_sum : (Owner → ℕ → ℕ) → ℕ → ℕ → List Owner → ℕ
part_sum c l j [] = 0
part_sum c l j (p ∷ ps) = c p j + part_sum c l (j + width l p) ps

-- the parts fill the carriageway, give each slice its owner, and are each lane once, at its first slice:
-- whatever is counted by owner and first slice comes to the same
pub record SameLanes (k : Carriageway) (starts : Starts) (parts : List Owner) : Type 0 where
  pub fill : span (lane_slices k.width) parts ≡ breadth k
  pub slices : owners (lane_slices k.width) parts ≡ owners_of k starts
  pub sums : (c : Owner → ℕ → ℕ) → ((j : ℕ) → c Remaining j ≡ 0) → part_sum c (lane_slices k.width) 0 parts ≡ total (lanes_in k.width) (λ i. c (owner_of (suc i)) (starts (suc i)))

-- lanes 1 up to the table's number, each once
abbrev pub HoldsAll : Carriageway → List Owner → Type 0
HoldsAll k parts = Holds (lane_set (lanes_in k.width)) (lanes_in k.width - 3) parts

-- wherever lanes are laid, parts from the left make them
abbrev pub LanesCut : Type 0
LanesCut = (k : Carriageway) (starts : Starts) → Laid k starts → (parts : List Owner) × SameLanes k starts parts × HoldsAll k parts

-- and whatever parts fill the carriageway with these lanes, lanes that are laid make them
abbrev pub PartsLaid : Type 0
PartsLaid = (k : Carriageway) (parts : List Owner) → span (lane_slices k.width) parts ≡ breadth k → HoldsAll k parts → (starts : Starts) × Laid k starts × SameLanes k starts parts

-- ---- the chosen parts are the winner

-- what the placement counts with is A, T, kind and factors of the setting
pub record LoadsIn (g : Setting) (tandems : ℕ → Tandem) (l : Loads) : Type 0 where
  pub slices : l.slices ≡ breadth g.kerbs
  pub lane : l.lane ≡ lane_width g
  pub kind : l.kind ≡ g.kind
  pub factors : l.factors ≡ g.factors
  pub areas : (j : ℕ) → j < breadth g.kerbs → l.area j ≡ area_of g.surface (on_deck g j)
  pub tops : (x : ℕ) → x + lane_width g ≤ breadth g.kerbs → l.top x ≡ (tandems x).t

-- the lanes that the parts make win, and the parts' effect is their rounded effect
pub record Wins {W : Type 0} (K : Kind W) (made : ℕ → ℕ → W) (g : Setting) (tandems : ℕ → Tandem) (l : Loads) (parts : List Owner) : Type 0 where
  pub starts : Starts
  pub winner : Winner K made g tandems starts
  pub slices : owners (lane_width g) parts ≡ owners_of g.kerbs starts
  pub attained : effect_from l 0 parts ≡ rounded_effect g tandems starts

abbrev pub ChosenWins : {W : Type 0} → Kind W → (ℕ → ℕ → W) → Type 0
ChosenWins K made = (g : Setting) (tandems : ℕ → Tandem) (l : Loads) → LoadsIn g tandems l → (parts : List Owner)
    → Chosen K (loaded made l) 0 (lane_set (lanes_in g.kerbs.width)) (lanes_in g.kerbs.width - 3) parts → Wins K made g tandems l parts

-- ---- and the winner is what is chosen

-- A, T, kind and factors of the setting, as the placement counts with them
abbrev pub loads_in : Setting → (ℕ → Tandem) → Loads
loads_in g tandems = record {
  slices = breadth g.kerbs;
  lane = lane_width g;
  kind = g.kind;
  factors = g.factors;
  area = λ j. area_of g.surface (on_deck g j);
  top = λ x. (tandems x).t;
}

-- the parts that the winner's lanes make are chosen
pub record IsChosen {W : Type 0} (K : Kind W) (made : ℕ → ℕ → W) (g : Setting) (tandems : ℕ → Tandem) (starts : Starts) : Type 0 where
  pub parts : List Owner
  pub same : SameLanes g.kerbs starts parts
  pub chosen : Chosen K (loaded made (loads_in g tandems)) 0 (lane_set (lanes_in g.kerbs.width)) (lanes_in g.kerbs.width - 3) parts

abbrev pub WinnerChosen : {W : Type 0} → Kind W → (ℕ → ℕ → W) → Type 0
WinnerChosen K made = (g : Setting) (tandems : ℕ → Tandem) (starts : Starts) → Winner K made g tandems starts → IsChosen K made g tandems starts
