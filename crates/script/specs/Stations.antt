-- What the rows of an edge surface say: a place, then an ordinate.
use Rattle.std.specs.Prelude.{◌≡◌, ℕ, List, [], ◌∷◌, length, ◌≢◌}
use Rattle.table.specs.Cells.{Cell}
use Rattle.table.specs.Numbers.{Writes}
use Rattle.table.specs.declared.fault.TextFault.{TextFault}
use Rattle.table.specs.declared.fault.TextFault.TheVariants.{Malformed}
use Rattle.records.specs.Numbers.{Written, Missed}
use Rattle.edge.specs.declared.station.Station.{Station}

abbrev pub StationSaid : List Cell → Station → Type 0
StationSaid cs s = Written Writes cs (s.place ∷ s.ordinate ∷ [])

-- a wrong number of fields comes before a field that is no number
pub data StationUnsaid (rec : ℕ) (cs : List Cell) : TextFault → Type 0 where
  count : (length cs ≢ 2) → StationUnsaid rec cs (Malformed rec 0)
  number : (e : TextFault) → length cs ≡ 2 → Missed Writes cs rec 1 e → StationUnsaid rec cs e
