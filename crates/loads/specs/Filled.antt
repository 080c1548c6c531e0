-- The lists of areas and tandems of a carriageway, once they are filled.
use Rattle.std.specs.Prelude.{◌≡◌, ℕ, ◌+◌, ◌<◌, ◌≤◌, List, ℤ, slice_index, slice_index_or}
use Rattle.surface.specs.Shape.{Shape}
use Rattle.model.specs.declared.lanes.Carriageway.{Carriageway}
use Rattle.model.specs.declared.tandems.Tandem.{Tandem}
use Rattle.model.specs.Lanes.{breadth, lane_slices}
use Rattle.model.specs.Tandems.{no_tandem}
use Rattle.lines.specs.Areas.{IsArea}
use Rattle.lines.specs.Lines.{IsTandem}
use Rattle.lines.specs.Axles.{LaneTandem}
use Rattle.loads.specs.Held.{lane_line}

-- an area for each slice of the carriageway; what lies beyond is as before
pub record AreasFilled (s : Shape) (c : Carriageway) (before after : List ℕ) : Type 0 where
  pub filled : (j : ℕ) → j < breadth c → IsArea s (c.first + j) (slice_index after j)
  pub beyond : (j : ℕ) → breadth c ≤ j → slice_index after j ≡ slice_index before j

-- a tandem for each slice of the carriageway at which a lane can begin, none for the slices after the last;
-- what lies beyond is as before
pub record TandemsFilled (s : Shape) (c : Carriageway) (before after : List Tandem) : Type 0 where
  pub starts : (x : ℕ) → x + lane_slices c.width ≤ breadth c → LaneTandem s (c.first + x) (lane_slices c.width) (slice_index_or after x no_tandem)
  pub rest : (x : ℕ) → x < breadth c → breadth c < x + lane_slices c.width → slice_index_or after x no_tandem ≡ no_tandem
  pub beyond : (x : ℕ) → breadth c ≤ x → slice_index_or after x no_tandem ≡ slice_index_or before x no_tandem

-- the tandem of the lane of l slices from row x on, or none where that is past the last row
pub record TandemAt (n : ℕ) (zs : List ℕ) (ys : List (List ℤ)) (slices l x : ℕ) (t : Tandem) : Type 0 where
  pub fits : x + l ≤ slices → IsTandem (lane_line n zs ys x l) t.t t.place
  pub none : slices < x + l → t ≡ no_tandem
