-- What `sheet` prints: one line of a refusal, or the extent of the surface under its header.
use Rattle.std.specs.Prelude.{◌≡◌, ℕ, List, ◌++◌, ℤ, codes, decimal}
use Rattle.std.specs.Fmt.{signed_decimal}
use Rattle.surface.specs.Told.{surface_told}
use Rattle.surface.specs.declared.fault.SurfaceFault.{SurfaceFault}
use Rattle.table.specs.Told.{refusal_text}
use Rattle.survey.specs.Surveys.{Surveyed, SurveyRefused}
use Rattle.survey.specs.declared.extent.Extent.{Extent}

-- a header, then slices, stations, last place, least and greatest ordinate
abbrev pub values_text : ℕ → ℕ → ℕ → ℤ → ℤ → List ℕ
values_text n t z least greatest = codes "slices,stations,last place,least,greatest\n" ++ (decimal n ++ (codes "," ++ (decimal t ++ (codes "," ++ (decimal z ++ (codes "," ++ (signed_decimal least ++ (codes "," ++ (signed_decimal greatest ++ codes "\n")))))))))

abbrev pub extent_text : Extent → List ℕ
extent_text e = values_text e.slices e.stations e.last_place e.ordinates.least e.ordinates.greatest

-- the text that answers a table
pub data AnsweredBy (input text : List ℕ) : Type 0 where
  extent : (e : Extent) → Surveyed input e → text ≡ extent_text e → AnsweredBy input text
  refusal : (f : SurfaceFault) → SurveyRefused input f → text ≡ refusal_text (surface_told f) → AnsweredBy input text
