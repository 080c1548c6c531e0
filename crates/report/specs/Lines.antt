-- The line of each answer, and the lines of a run.
use Rattle.std.specs.Prelude.{◌≡◌, ℕ, List, [], ◌∷◌, ◌++◌, codes, decimal, Option}
use Rattle.model.specs.Weights.{kind_word}
use Rattle.model.specs.declared.weights.LoadKind.{LoadKind}
use Rattle.table.specs.Told.{refusal_text}
use Rattle.card.specs.Told.{job_told}
use Rattle.card.specs.declared.answers.Answer.{Answer}
use Rattle.card.specs.declared.answers.Answer.TheVariants.{Refused, Done, Handed, Rated}
use Rattle.card.specs.declared.answers.Layout.{Layout}
use Rattle.card.specs.declared.answers.Rating.{Rating}
use Rattle.card.specs.declared.calls.Call.{Call}
use Rattle.card.specs.declared.calls.Call.TheVariants.{Kerbs, Factors, Reduce, Posted, Withdraw, Figure, Drawing}
use Rattle.report.specs.Shown.{OtherStarts, StartsAt, place_from}
use Rattle.report.specs.Texts.{cell_text, cells_text, drawing_word, duty_word, figure_word, spaced}

-- kind,value, and three cells twice
abbrev pub row_text : List ℕ → ℕ → List ℕ → List ℕ → List ℕ
row_text kind figure lanes places = kind ++ (codes "," ++ (decimal figure ++ (codes "," ++ (lanes ++ (codes "," ++ places)))))

-- kind,value,lane1,lane2,lane3,place1,place2,place3
abbrev pub figure_text : LoadKind → ℕ → Option ℕ → Option ℕ → Option ℕ → Option ℕ → Option ℕ → Option ℕ → List ℕ
figure_text kind figure a b c p q r = row_text (kind_word kind) figure (cells_text (cell_text a) (cell_text b) (cell_text c)) (cells_text (cell_text p) (cell_text q) (cell_text r))

-- the cells of a figure, with lanes 1 to 3 as its owners and tandems show them
pub record FigureCells (kind : LoadKind) (figure : ℕ) (l : Layout) (text : List ℕ) : Type 0 where
  pub first : Option ℕ
  pub second : Option ℕ
  pub third : Option ℕ
  pub first_starts : StartsAt l.owners 1 first
  pub second_starts : StartsAt l.owners 2 second
  pub third_starts : StartsAt l.owners 3 third
  pub written : text ≡ figure_text kind figure first second third (place_from l.tandems first) (place_from l.tandems second) (place_from l.tandems third)

-- word,cells,others,duty
abbrev pub shown_text : List ℕ → List ℕ → List ℕ → List ℕ → List ℕ
shown_text word cells others duty = word ++ (codes "," ++ (cells ++ (codes "," ++ (others ++ (codes "," ++ (duty ++ codes "\n"))))))

-- the line of a figure or a drawing: its cells, the first slices of its other lanes, and whether a duty is open
pub record ShownLine (word : List ℕ) (kind : LoadKind) (r : Rating) (l : Layout) (text : List ℕ) : Type 0 where
  pub cells : List ℕ
  pub others : List ℕ
  pub cells_are : FigureCells kind r.figure l cells
  pub others_are : OtherStarts l.owners others
  pub written : text ≡ shown_text word cells (spaced others) (duty_word r.duty)

-- the line of a rating; only a figure and a drawing have one
abbrev pub RatedLine : Call → Rating → Layout → List ℕ → Type 0
RatedLine (Figure kind _) r l text = ShownLine figure_word kind r l text
RatedLine (Drawing kind _) r l text = ShownLine drawing_word kind r l text
RatedLine (Kerbs _) r l text = text ≡ []
RatedLine (Factors _) r l text = text ≡ []
RatedLine (Reduce _) r l text = text ≡ []
RatedLine (Posted _ _) r l text = text ≡ []
RatedLine (Withdraw _ _) r l text = text ≡ []

-- duty,number,serial
abbrev pub handed_text : ℕ → ℕ → List ℕ
handed_text number serial = codes "duty," ++ (decimal number ++ (codes "," ++ (decimal serial ++ codes "\n")))

-- the line that tells what a call answered
abbrev pub ToldLine : Call → Answer → List ℕ → Type 0
ToldLine call (Refused fault) text = text ≡ refusal_text (job_told fault)
ToldLine call Done text = text ≡ codes "taken\n"
ToldLine call (Handed number serial) text = text ≡ handed_text number serial
ToldLine call (Rated r l) text = RatedLine call r l text

-- the lines of all calls in order, as far as both lists go
pub data ToldLines : List Call → List Answer → List ℕ → Type 0 where
  no_more_calls : (answers : List Answer) → ToldLines [] answers []
  no_more_answers : (calls : List Call) → ToldLines calls [] []
  then_told : (call : Call) (answer : Answer) (calls : List Call) (answers : List Answer) (line rest : List ℕ) → ToldLine call answer line → ToldLines calls answers rest → ToldLines (call ∷ calls) (answer ∷ answers) (line ++ rest)
