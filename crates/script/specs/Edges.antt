-- The part of a script that says an edge surface: a header, and a row for each station.
use Rattle.std.specs.Prelude.{◌≡◌, ℕ, List, [], ◌∷◌, length, ℤ, ◌≢◌}
use Rattle.surface.specs.declared.fault.SurfaceFault.{SurfaceFault}
use Rattle.surface.specs.declared.fault.SurfaceFault.TheVariants.{Text}
use Rattle.table.specs.Cells.{Cell}
use Rattle.table.specs.Lines.{Line, Broken}
use Rattle.table.specs.Numbers.{Writes}
use Rattle.table.specs.Tables.{Passes}
use Rattle.table.specs.declared.fault.TextFault.{TextFault}
use Rattle.table.specs.declared.fault.TextFault.TheVariants.{Malformed}
use Rattle.records.specs.Numbers.{Written, Missed}
use Rattle.edge.specs.declared.station.Station.{Station}
use Rattle.script.specs.Entries.{Entered, Stopped}
use Rattle.script.specs.Stations.{StationSaid, StationUnsaid}

-- the header's fields after its word: slices, and the factors of the left and the right edge
abbrev pub EdgeHeaded : List Cell → ℤ → ℤ → ℤ → Type 0
EdgeHeaded [] n f g = ⊥
EdgeHeaded (c ∷ ds) n f g = Written Writes ds (n ∷ f ∷ g ∷ [])

pub data EdgeUnheaded : List Cell → TextFault → Type 0 where
  count : (c : Cell) (ds : List Cell) → (length ds ≢ 3) → EdgeUnheaded (c ∷ ds) (Malformed 1 0)
  number : (c : Cell) (ds : List Cell) (e : TextFault) → length ds ≡ 3 → Missed Writes ds 1 2 e → EdgeUnheaded (c ∷ ds) e

-- the header with which the part begins, and the text after it
pub record EdgeBegins (part : List ℕ) (n f g : ℤ) (rest : List ℕ) : Type 0 where
  pub cells : List Cell
  pub after : List ℕ
  pub line : Line cells part after
  pub passes : Passes after rest
  pub headed : EdgeHeaded cells n f g

pub record EdgeRead (part : List ℕ) (n f g : ℤ) (ss : List Station) : Type 0 where
  pub rest : List ℕ
  pub begins : EdgeBegins part n f g rest
  pub rows : Entered StationSaid rest ss

pub data EdgeRefused (part : List ℕ) : SurfaceFault → Type 0 where
  broken : (f : ℕ) → Broken part f → EdgeRefused part (Text (Malformed 1 f))
  header : (cs : List Cell) (ys : List ℕ) (e : TextFault) → Line cs part ys → EdgeUnheaded cs e → EdgeRefused part (Text e)
  row : (n f g : ℤ) (rest : List ℕ) (e : SurfaceFault) → EdgeBegins part n f g rest → Stopped StationSaid StationUnsaid 2 rest e → EdgeRefused part e
