-- From a table that was read to what is answered.
use Rattle.std.proofs.Common.{◌≡◌, ℕ, List, Ok, Err, Result, sym, refl, subst, MatchResult}
use Rattle.measured.specs.Judged.{seal_judged}
use Rattle.measured.specs.Rows.{rows_shape}
use Rattle.measured.specs.declared.measured.Draft.{Draft}
use Rattle.measured.specs.declared.row.Row.{Row}
use Rattle.readings.specs.Blank.{blank_rows}
use Rattle.readings.specs.Runs.{RunTaken}
use Rattle.surface.specs.Verdict.{Verdict}
use Rattle.card.specs.declared.answers.Answer.{Answer}
use Rattle.card.specs.declared.fault.JobFault.{JobFault}
use Rattle.rated.specs.Ratings.{Drafted, Figures, RatedTable, RefusedTable, SealedRated}
use Rattle.rated.specs.Ratings as ratings

module _ (input : List ℕ) (rows : List Row) (answers : List Answer) (d : Draft) (t : RunTaken input blank_rows rows d.layout.slices d.layout.count d.layout.paths d.filled) where
  unfoldable drafted : Drafted input
  drafted = record { rows = rows; slices = d.layout.slices; count = d.layout.count; paths = d.layout.paths; stations = d.filled; taken = t }

  by_verdict : (v : Verdict) (r : Result (Unit {0}) JobFault) → seal_judged d.layout.count rows d.filled ≡ v
      → SealedRated v r (Figures (rows_shape d.layout.slices d.layout.count d.layout.paths d.filled rows) answers)
      → MatchResult r (λ _. RatedTable input answers) (RefusedTable input)
  unfolding drafted
  by_verdict (Ok x) r e (is, f) = subst (λ (o : Result (Unit {0}) JobFault). MatchResult o (λ _. RatedTable input answers) (RefusedTable input)) (sym is) (record { draft = drafted; sealed = e; figures = f })
  by_verdict (Err f) r e is = subst (λ (o : Result (Unit {0}) JobFault). MatchResult o (λ _. RatedTable input answers) (RefusedTable input)) (sym is) (ratings.sealing drafted f e)

  pub rated : (r : Result (Unit {0}) JobFault)
      → SealedRated (seal_judged d.layout.count rows d.filled) r (Figures (rows_shape d.layout.slices d.layout.count d.layout.paths d.filled rows) answers)
      → MatchResult r (λ _. RatedTable input answers) (RefusedTable input)
  rated r s = by_verdict (seal_judged d.layout.count rows d.filled) r refl s
