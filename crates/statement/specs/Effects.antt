-- Permitted arrangements of the load model, their exact effect, and the rounded effect that is reported.
use Rattle.std.specs.Prelude.{◌≡◌, ℕ, suc, ◌+◌, ◌-◌, ◌*◌, ◌<◌, ◌≤◌, cond, pos, Some, None, Option, nat_le}
use Rattle.algebra.specs.Frac.{Frac, whole, ◌+F◌, ◌·F◌}
use Rattle.algebra.specs.Sums.{total, totalF}
use Rattle.surface.specs.Shape.{Shape}
use Rattle.model.specs.Lanes.{breadth, lanes_in, lane_slices}
use Rattle.model.specs.Weights.{tandem_weight, uniform_weight}
use Rattle.model.specs.declared.lanes.Carriageway.{Carriageway}
use Rattle.model.specs.declared.tandems.Tandem.{Tandem}
use Rattle.model.specs.declared.weights.Factors.{Factors}
use Rattle.model.specs.declared.weights.LoadKind.{LoadKind}
use Rattle.lines.specs.Segments.{Loading}
use Rattle.lines.specs.Lines.{Line, axles, Stands}
use Rattle.lines.specs.Areas.{area_of, loaded_on, all_positive, changes_of}
use Rattle.lines.specs.Axles.{axle_line, LaneTandem}
use Rattle.statement.specs.Lanes.{Starts, Numbered, Laid, owner_of, owner_at}

-- What a figure is asked for: over which surface, between which kerbs, by which factors and kind of load.
pub record Setting : Type 0 where
  pub surface : Shape
  pub kerbs : Carriageway
  pub factors : Factors
  pub kind : LoadKind

module _ (g : Setting) where
  abbrev pub lane_count : ℕ
  lane_count = lanes_in g.kerbs.width

  abbrev pub lane_width : ℕ
  lane_width = lane_slices g.kerbs.width

  -- the deck's slice that is slice j of the carriageway
  abbrev pub on_deck : ℕ → ℕ
  on_deck j = g.kerbs.first + j

  -- C · αQ, by the lane's number
  abbrev pub tandem_share : ℕ → ℕ
  tandem_share i = tandem_weight g.kind g.factors (owner_of i)

  -- D · αq, by the carriageway's slice, for lanes that begin at the starts
  abbrev pub uniform_share : Starts → ℕ → ℕ
  uniform_share starts j = uniform_weight g.kind g.factors (owner_at g.kerbs starts j)

  -- W along the deck, of the lane that begins at slice x of the carriageway
  abbrev pub lane_line : ℕ → Line
  lane_line x = axle_line g.surface (on_deck x) lane_width

-- ---- arrangements

-- A place along the deck, num / den mm.
pub record Place : Type 0 where
  pub num : ℕ
  pub den : ℕ

abbrev pub whole_place : ℕ → Place
whole_place p = record { num = p; den = 1 }

-- The first slice of each lane and the rear place of its tandem, if it has one, by the lane's number;
-- and by carriageway slice and segment the stretches that are loaded: apart from one another, with ends at m-ths of the segment.
pub record Arrangement : Type 0 where
  pub starts : Starts
  pub tandem : ℕ → Option Place
  pub load : ℕ → ℕ → Loading

-- The lanes are laid, none but lanes 1 to 3 has a tandem, and both axles of each tandem stand on the deck:
-- its rear place is a fraction, at least 0, and 1,200 mm more is at most the last place.
pub record Permitted (g : Setting) (x : Arrangement) : Type 0 where
  pub laid : Laid g.kerbs x.starts
  pub only : (i : ℕ) → Numbered g.kerbs i → 3 < i → x.tandem i ≡ None
  pub stands : (i : ℕ) (p : Place) → Numbered g.kerbs i → x.tandem i ≡ Some p → Stands (lane_line g (x.starts i)) p.num p.den

module _ (g : Setting) where
  -- of a tandem, in the lane that begins at slice x: 10,000 times W at both axles
  abbrev pub tandem_effect : ℕ → Option Place → Frac
  tandem_effect x None = whole (pos 0)
  tandem_effect x (Some p) = 10000 ·F axles (lane_line g x) p.num p.den

  abbrev pub exact : Arrangement → Frac
  exact x =
      totalF (lane_count g) (λ i. tandem_share g (suc i) ·F tandem_effect (x.starts (suc i)) (x.tandem (suc i)))
      +F totalF (breadth g.kerbs) (λ j. uniform_share g x.starts j ·F loaded_on g.surface (on_deck g j) (x.load j))

-- ---- the rounded effect

-- T and place of every slice at which a lane may begin
abbrev pub Tandems : Setting → (ℕ → Tandem) → Type 0
Tandems g tandems = (x : ℕ) → x + lane_width g ≤ breadth g.kerbs → LaneTandem g.surface (on_deck g x) (lane_width g) (tandems x)

-- 1 where a tandem stands
abbrev pub stood : Option ℕ → ℕ
stood None = 0
stood (Some _) = 1

module _ (g : Setting) (tandems : ℕ → Tandem) (starts : Starts) where
  abbrev pub rounded_effect : ℕ
  rounded_effect =
      total (lane_count g) (λ i. tandem_share g (suc i) * (tandems (starts (suc i))).t)
      + total (breadth g.kerbs) (λ j. uniform_share g starts j * area_of g.surface (on_deck g j))

  -- by how much the exact effect may be less
  abbrev pub allowance : ℕ
  allowance =
      total (lane_count g) (λ i. tandem_share g (suc i) * stood (tandems (starts (suc i))).place)
      + total (breadth g.kerbs) (λ j. uniform_share g starts j * changes_of g.surface (on_deck g j))

-- 300 less a lane's first slice, over all lanes
abbrev pub kerb_count : Setting → Starts → ℕ
kerb_count g starts = total (lane_count g) (λ i. 300 - starts (suc i))

-- ---- the arrangement handed back

abbrev pub placed : Option ℕ → Option Place
placed None = None
placed (Some r) = Some (whole_place r)

-- lanes 1 to 3 have the tandem of the slice at which they begin, and each slice is loaded wherever its ordinate is positive
abbrev pub handed_back : Setting → (ℕ → Tandem) → Starts → Arrangement
handed_back g tandems starts = record {
  starts = starts;
  tandem = λ i. cond (nat_le i 3) (placed (tandems (starts i)).place) None;
  load = λ j. all_positive g.surface (on_deck g j);
}
