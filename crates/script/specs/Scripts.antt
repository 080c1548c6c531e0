-- A script read whole: its surface's part, and what follows it.
use Rattle.std.specs.Prelude.{ℕ, List, take, drop, ℤ}
use Rattle.surface.specs.declared.fault.SurfaceFault.{SurfaceFault}
use Rattle.measured.specs.declared.row.Row.{Row}
use Rattle.readings.specs.Runs.{RunTaken, RunRefused}
use Rattle.edge.specs.declared.station.Station.{Station}
use Rattle.model.specs.declared.lanes.Carriageway.{Carriageway}
use Rattle.card.specs.declared.calls.Call.{Call}
use Rattle.script.specs.Edges.{EdgeRead, EdgeRefused}
use Rattle.script.specs.Parts.{EndsAt}
use Rattle.script.specs.Tails.{TailSaid, TailRefused}
use Rattle.script.specs.declared.turns.Turns.{Turns}

-- ---- over a run's table: draft and rows, where `old` is what the rows were

pub record MeasuredSays (input : List ℕ) (old rows : List Row) (slices count : ℕ) (paths : List ℕ) (stations : ℕ) (t : Turns) (number : ℕ) (kerbs : Carriageway) (calls : List Call) : Type 0 where
  pub end : ℕ
  pub next : ℕ
  pub ends : EndsAt input end next
  pub run : RunTaken (take end input) old rows slices count paths stations
  pub tail : TailSaid (drop end input) next t number kerbs calls

-- the table is refused as a run's table is, and what follows it only where the table is taken
pub data MeasuredRefused (input : List ℕ) (old : List Row) : SurfaceFault → Type 0 where
  run : (end next : ℕ) (f : SurfaceFault) → EndsAt input end next → RunRefused (take end input) old f → MeasuredRefused input old f
  tail : (end next : ℕ) (rows : List Row) (slices count : ℕ) (paths : List ℕ) (stations : ℕ) (f : SurfaceFault) → EndsAt input end next → RunTaken (take end input) old rows slices count paths stations
      → TailRefused next (drop end input) f → MeasuredRefused input old f

-- ---- over an edge surface's line

pub record LinedSays (input : List ℕ) (n f g : ℤ) (ss : List Station) (t : Turns) (number : ℕ) (kerbs : Carriageway) (calls : List Call) : Type 0 where
  pub end : ℕ
  pub next : ℕ
  pub ends : EndsAt input end next
  pub line : EdgeRead (take end input) n f g ss
  pub tail : TailSaid (drop end input) next t number kerbs calls

pub data LinedRefused (input : List ℕ) : SurfaceFault → Type 0 where
  line : (end next : ℕ) (e : SurfaceFault) → EndsAt input end next → EdgeRefused (take end input) e → LinedRefused input e
  tail : (end next : ℕ) (n f g : ℤ) (ss : List Station) (e : SurfaceFault) → EndsAt input end next → EdgeRead (take end input) n f g ss → TailRefused next (drop end input) e → LinedRefused input e
