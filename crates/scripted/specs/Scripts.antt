-- What a script says, what it is refused for, and what its run leaves.
use Rattle.std.specs.Prelude.{◌≡◌, ℕ, ◌<◌, ◌≤◌, List, length, ℤ, pos, Some, None, Ok, Err, Option}
use Rattle.surface.specs.Shape.{Shape}
use Rattle.surface.specs.Told.{surface_told}
use Rattle.surface.specs.Verdict.{Verdict}
use Rattle.surface.specs.declared.fault.SurfaceFault.{SurfaceFault}
use Rattle.surface.specs.declared.fault.SurfaceFault.TheVariants.{Text}
use Rattle.table.specs.declared.fault.TextFault.TheVariants.{TooLong}
use Rattle.measured.specs.Judged.{seal_judged}
use Rattle.measured.specs.Rows.{rows_shape}
use Rattle.measured.specs.declared.row.Row.{Row}
use Rattle.edge.specs.Edges.{edge_shape}
use Rattle.edge.specs.Judged.{edge_judged}
use Rattle.edge.specs.declared.station.Station.{Station}
use Rattle.readings.specs.Blank.{blank_rows}
use Rattle.model.specs.declared.lanes.Carriageway.{Carriageway}
use Rattle.card.specs.declared.calls.Call.{Call}
use Rattle.statement.specs.Runs.{Duty}
use Rattle.table.specs.Told.{refusal_text}
use Rattle.script.specs.Parts.{BeginsEdge}
use Rattle.script.specs.Scripts.{MeasuredSays, MeasuredRefused, LinedSays, LinedRefused}
use Rattle.script.specs.Turns.{turned_shape}
use Rattle.script.specs.declared.fault.ScriptFault.{ScriptFault}
use Rattle.script.specs.declared.fault.ScriptFault.TheVariants.{Told}
use Rattle.script.specs.declared.turns.Turns.{Turns}
use Rattle.scripted.specs.Runs.{RanSo}

-- the script says this surface, these turns of it, this opening and these calls
pub data ScriptSays (input : List ℕ) : Shape → Turns → ℕ → Carriageway → List Call → Type 0 where
  measured : (rows : List Row) (slices count : ℕ) (paths : List ℕ) (stations : ℕ) (t : Turns) (number : ℕ) (kerbs : Carriageway) (calls : List Call)
      → length input ≤ 65536 → (BeginsEdge input → ⊥) → MeasuredSays input blank_rows rows slices count paths stations t number kerbs calls → seal_judged count rows stations ≡ Ok tt
      → ScriptSays input (rows_shape slices count paths stations rows) t number kerbs calls
  lined : (m : ℕ) (n f g : ℤ) (ss : List Station) (t : Turns) (number : ℕ) (kerbs : Carriageway) (calls : List Call)
      → length input ≤ 65536 → BeginsEdge input → LinedSays input n f g ss t number kerbs calls → edge_judged n f g ss ≡ Ok tt → pos m ≡ n
      → ScriptSays input (edge_shape m f g ss) t number kerbs calls

-- why it is refused: its length first, then the first faulty record, and last the surface as a whole
pub data ScriptRefused (input : List ℕ) : SurfaceFault → Type 0 where
  long : 65536 < length input → ScriptRefused input (Text TooLong)
  measured : (f : SurfaceFault) → length input ≤ 65536 → (BeginsEdge input → ⊥) → MeasuredRefused input blank_rows f → ScriptRefused input f
  sealing : (rows : List Row) (slices count : ℕ) (paths : List ℕ) (stations : ℕ) (t : Turns) (number : ℕ) (kerbs : Carriageway) (calls : List Call) (f : SurfaceFault)
      → length input ≤ 65536 → (BeginsEdge input → ⊥) → MeasuredSays input blank_rows rows slices count paths stations t number kerbs calls → seal_judged count rows stations ≡ Err f → ScriptRefused input f
  lined : (f : SurfaceFault) → length input ≤ 65536 → BeginsEdge input → LinedRefused input f → ScriptRefused input f
  making : (n f g : ℤ) (ss : List Station) (t : Turns) (number : ℕ) (kerbs : Carriageway) (calls : List Call) (e : SurfaceFault)
      → length input ≤ 65536 → BeginsEdge input → LinedSays input n f g ss t number kerbs calls → edge_judged n f g ss ≡ Err e → ScriptRefused input e

-- the refusal's line, or nothing where memory lacks; no duty is made
pub data Unread : ScriptFault → Option (List ℕ) → Option Duty → Type 0 where
  told : (f : SurfaceFault) → Unread (Told f) (Some (refusal_text (surface_told f))) None
  unwritten : (f : ScriptFault) → Unread f None None

-- by the verdict on the surface as a whole: the run over it, or its refusal
abbrev pub JudgedRan : Verdict → Shape → ℕ → Carriageway → List Call → Option (List ℕ) → Option Duty → Type 0
JudgedRan (Ok _) s number kerbs calls text duty = RanSo s number kerbs calls text duty
JudgedRan (Err f) s number kerbs calls text duty = Unread (Told f) text duty

-- the same of an edge surface, whose slices are m
pub record OverEdges (n f g : ℤ) (ss : List Station) (t : Turns) (number : ℕ) (kerbs : Carriageway) (calls : List Call) (text : Option (List ℕ)) (duty : Option Duty) : Type 0 where
  pub slices : ℕ
  pub same : pos slices ≡ n
  pub ran : RanSo (turned_shape t (edge_shape slices f g ss)) number kerbs calls text duty

abbrev pub EdgeJudgedRan : Verdict → ℤ → ℤ → ℤ → List Station → Turns → ℕ → Carriageway → List Call → Option (List ℕ) → Option Duty → Type 0
EdgeJudgedRan (Ok _) n f g ss t number kerbs calls text duty = OverEdges n f g ss t number kerbs calls text duty
EdgeJudgedRan (Err e) n f g ss t number kerbs calls text duty = Unread (Told e) text duty

abbrev pub LinedRan : ℤ → ℤ → ℤ → List Station → Turns → ℕ → Carriageway → List Call → Option (List ℕ) → Option Duty → Type 0
LinedRan n f g ss = EdgeJudgedRan (edge_judged n f g ss) n f g ss

-- what the run of a script leaves
pub data ScriptRan (input : List ℕ) : Option (List ℕ) → Option Duty → Type 0 where
  no_memory : ScriptRan input None None
  refused : (f : SurfaceFault) → ScriptRefused input f → ScriptRan input (Some (refusal_text (surface_told f))) None
  ran : (s : Shape) (t : Turns) (number : ℕ) (kerbs : Carriageway) (calls : List Call) (text : Option (List ℕ)) (duty : Option Duty)
      → ScriptSays input s t number kerbs calls → RanSo (turned_shape t s) number kerbs calls text duty → ScriptRan input text duty
