-- The text of a table: one line of a refusal, or a line for each figure under their header.
use Rattle.std.specs.Prelude.{◌≡◌, ℕ, List, [], ◌∷◌, ◌++◌, codes}
use Rattle.model.specs.declared.weights.LoadKind.{LoadKind}
use Rattle.model.specs.declared.weights.LoadKind.TheVariants.{Characteristic, Frequent}
use Rattle.card.specs.Told.{job_told}
use Rattle.card.specs.declared.answers.Answer.{Answer}
use Rattle.card.specs.declared.answers.Answer.TheVariants.{Refused, Done, Handed, Rated}
use Rattle.card.specs.declared.answers.Layout.{Layout}
use Rattle.card.specs.declared.fault.JobFault.{JobFault}
use Rattle.report.specs.Lines.{FigureCells}
use Rattle.table.specs.Told.{refusal_text}
use Rattle.rated.specs.Ratings.{RatedTable, RefusedTable}

-- the line of a figure: its cells alone
pub record FigureLine (kind : LoadKind) (figure : ℕ) (l : Layout) (text : List ℕ) : Type 0 where
  pub cells : List ℕ
  pub cells_are : FigureCells kind figure l cells
  pub written : text ≡ cells ++ codes "\n"

-- the line of an answer; only a figure has one
abbrev pub LineOf : LoadKind → Answer → List ℕ → Type 0
LineOf kind (Refused _) text = text ≡ []
LineOf kind Done text = text ≡ []
LineOf kind (Handed _ _) text = text ≡ []
LineOf kind (Rated r l) text = FigureLine kind r.figure l text

-- a header, and the line of each of two answers
pub record BothLines (characteristic frequent : Answer) (text : List ℕ) : Type 0 where
  pub first : List ℕ
  pub second : List ℕ
  pub first_line : LineOf Characteristic characteristic first
  pub second_line : LineOf Frequent frequent second
  pub written : text ≡ codes "kind,figure,lane1,lane2,lane3,place1,place2,place3\n" ++ (first ++ second)

-- the text that answers a table: its figures, which keep the whole promise, or its refusal
pub data AnsweredBy (input text : List ℕ) : Type 0 where
  figures : (characteristic frequent : Answer) → RatedTable input (characteristic ∷ frequent ∷ []) → BothLines characteristic frequent text → AnsweredBy input text
  refusal : (f : JobFault) → RefusedTable input f → text ≡ refusal_text (job_told f) → AnsweredBy input text
