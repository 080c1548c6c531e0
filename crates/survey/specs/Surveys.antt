-- What a run's table gives: the surface that its draft is sealed to, or why the table is refused.
use Rattle.std.specs.Prelude.{◌≡◌, ℕ, List, Ok, Err}
use Rattle.measured.specs.Judged.{seal_judged}
use Rattle.measured.specs.Rows.{rows_shape}
use Rattle.measured.specs.declared.row.Row.{Row}
use Rattle.readings.specs.Blank.{blank_rows}
use Rattle.readings.specs.Runs.{RunTaken, RunRefused}
use Rattle.surface.specs.declared.fault.SurfaceFault.{SurfaceFault}
use Rattle.survey.specs.Extents.{Extends}
use Rattle.survey.specs.declared.extent.Extent.{Extent}

-- the table was read whole, and its draft has these rows
pub record Drafted (input : List ℕ) : Type 0 where
  pub rows : List Row
  pub slices : ℕ
  pub count : ℕ
  pub paths : List ℕ
  pub stations : ℕ
  pub taken : RunTaken input blank_rows rows slices count paths stations

-- the draft is sealed, and this is the extent of the surface
pub record Surveyed (input : List ℕ) (e : Extent) : Type 0 where
  pub draft : Drafted input
  pub sealed : seal_judged draft.count draft.rows draft.stations ≡ Ok tt
  pub extent : Extends (rows_shape draft.slices draft.count draft.paths draft.stations draft.rows) e

-- the table is refused, or else the sealing of its draft
pub data SurveyRefused (input : List ℕ) (f : SurfaceFault) : Type 0 where
  reading : RunRefused input blank_rows f → SurveyRefused input f
  sealing : (d : Drafted input) → seal_judged d.count d.rows d.stations ≡ Err f → SurveyRefused input f
