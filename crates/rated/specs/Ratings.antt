-- What a run's table gives: the figures of a job over its surface, or why it is refused.
use Rattle.std.specs.Prelude.{◌≡◌, ℕ, ◌/◌, List, [], ◌∷◌, Ok, Err, Result}
use Rattle.surface.specs.Shape.{Shape}
use Rattle.surface.specs.Verdict.{Verdict}
use Rattle.surface.specs.declared.fault.SurfaceFault.{SurfaceFault}
use Rattle.measured.specs.Judged.{seal_judged}
use Rattle.measured.specs.Rows.{rows_shape}
use Rattle.measured.specs.declared.row.Row.{Row}
use Rattle.readings.specs.Blank.{blank_rows}
use Rattle.readings.specs.Runs.{RunTaken, RunRefused}
use Rattle.model.specs.declared.lanes.Carriageway.{Carriageway}
use Rattle.model.specs.declared.weights.LoadKind.TheVariants.{Characteristic, Frequent}
use Rattle.card.specs.Ample.{ample}
use Rattle.card.specs.declared.answers.Answer.{Answer}
use Rattle.card.specs.declared.calls.Call.{Call}
use Rattle.card.specs.declared.calls.Call.TheVariants.{Figure}
use Rattle.card.specs.declared.fault.JobFault.{JobFault}
use Rattle.card.specs.declared.fault.JobFault.TheVariants.{Surface}
use Rattle.statement.specs.Runs.{Whole}

-- the carriageway over the whole of a deck of n slices
abbrev pub across : ℕ → Carriageway
across n = record { first = 0; width = n / 2 }

abbrev pub whole_deck : Shape → Carriageway
whole_deck s = across s.slices

-- a figure of each kind
abbrev pub both_figures : List Call
both_figures = Figure Characteristic ample ∷ Figure Frequent ample ∷ []

-- the answers keep the whole promise, over a job of number 0 that is opened over the whole deck
abbrev pub Figures : Shape → List Answer → Type 0
Figures s answers = Whole s 0 (whole_deck s) both_figures answers

-- the table was read whole, and its draft has these rows
pub record Drafted (input : List ℕ) : Type 0 where
  pub rows : List Row
  pub slices : ℕ
  pub count : ℕ
  pub paths : List ℕ
  pub stations : ℕ
  pub taken : RunTaken input blank_rows rows slices count paths stations

-- the draft is sealed, and these are the answers over its surface
pub record RatedTable (input : List ℕ) (answers : List Answer) : Type 0 where
  pub draft : Drafted input
  pub sealed : seal_judged draft.count draft.rows draft.stations ≡ Ok tt
  pub figures : Figures (rows_shape draft.slices draft.count draft.paths draft.stations draft.rows) answers

-- the table is refused, or else the sealing of its draft
pub data RefusedTable (input : List ℕ) : JobFault → Type 0 where
  reading : (f : SurfaceFault) → RunRefused input blank_rows f → RefusedTable input (Surface f)
  sealing : (d : Drafted input) (f : SurfaceFault) → seal_judged d.count d.rows d.stations ≡ Err f → RefusedTable input (Surface f)

-- by the verdict of sealing: the figures hold, or the fault is answered
abbrev pub SealedRated : Verdict → Result (Unit {0}) JobFault → Type 0 → Type 0
SealedRated (Ok _) r figures = (r ≡ Ok tt) × figures
SealedRated (Err f) r figures = r ≡ Err (Surface f)
