-- From a draft that was read to what is told of it.
use Rattle.std.proofs.Common.{◌≡◌, ℕ, true, false, is_ok, List, Ok, Err, Result, refl, MatchResult}
use Rattle.measured.specs.Judged.{seal_judged}
use Rattle.measured.specs.Rows.{rows_shape}
use Rattle.measured.specs.declared.measured.Draft.{Draft}
use Rattle.measured.specs.declared.row.Row.{Row}
use Rattle.readings.specs.Blank.{blank_rows}
use Rattle.readings.specs.Runs.{RunTaken}
use Rattle.surface.specs.Verdict.{Verdict, Granted, Settled}
use Rattle.surface.specs.declared.fault.SurfaceFault.{SurfaceFault}
use Rattle.survey.specs.Extents.{Extends}
use Rattle.survey.specs.Surveys.{Drafted, Surveyed, SurveyRefused}
use Rattle.survey.specs.Surveys as surveys
use Rattle.survey.specs.declared.extent.Extent.{Extent}

-- a draft that did not come back is sealed
pub settled : {D : Type 0} (v : Verdict) (d : D) (r : Result (Unit {0}) (D × SurfaceFault)) (made kept : Type 0) → is_ok r ≡ true → Settled v d r made kept → (v ≡ Ok tt) × made
settled (Ok y) d r made kept ok s = (refl, s.1)
settled (Err f) d r made kept ok s = let e = s.0 in let z : false ≡ true = cc in absurd (cc)

module _ (input : List ℕ) (rows : List Row) (d : Draft) (t : RunTaken input blank_rows rows d.layout.slices d.layout.count d.layout.paths d.filled) where
  pub drafted : Drafted input
  drafted = record { rows = rows; slices = d.layout.slices; count = d.layout.count; paths = d.layout.paths; stations = d.filled; taken = t }

  pub granted : (r : Result Extent SurfaceFault)
      → Granted (seal_judged d.layout.count rows d.filled) r (λ e. Extends (rows_shape d.layout.slices d.layout.count d.layout.paths d.filled rows) e)
      → MatchResult r (Surveyed input) (SurveyRefused input)
  unfolding drafted
  granted (Ok e) g = record { draft = drafted; sealed = g.0; extent = g.1 }
  granted (Err f) g = surveys.sealing drafted g
