-- What a grid holds of a surface.
use Rattle.std.specs.Prelude.{◌≡◌, ℕ, ◌+◌, ◌<◌, ◌≤◌, List, length, slice_index, ℤ}
use Rattle.surface.specs.Shape.{Shape, Lawful}
use Rattle.model.specs.declared.lanes.Carriageway.{Carriageway}
use Rattle.model.specs.Lanes.{breadth}
use Rattle.lines.specs.Lines.{Line}
use Rattle.loads.specs.declared.grid.Grid.{Grid}
use Rattle.loads.specs.Held.{Places, Rows, HeightsRead, line_of}

-- the line of these values at the stations of a grid
abbrev pub line_on : Grid → List ℤ → Line
line_on g ws = line_of g.stations.count g.stations.places ws

-- the grid has stations as a lawful surface has them, and a row for each slice of the carriageway
pub record Ready (c : Carriageway) (g : Grid) : Type 0 where
  pub few : g.stations.count ≤ length g.stations.places
  pub places_are : Places g.stations.count g.stations.places
  pub rows_are : Rows g.stations.count (breadth c) g.heights

-- the grid holds the stations of the surface, and the ordinates of the carriageway's slices
pub record Read (s : Shape) (c : Carriageway) (g : Grid) : Type 0 where
  pub lawful : Lawful s
  pub deck : c.first + breadth c ≤ s.slices
  pub count : g.stations.count ≡ s.stations
  pub room : length g.stations.places ≡ 64
  pub places_read : (k : ℕ) → k < s.stations → slice_index g.stations.places k ≡ s.place k
  pub rows : breadth c ≤ length g.heights
  pub heights_read : HeightsRead s c.first (breadth c) g.heights
