-- The words of a script, each by one definition; those that its answers use too are the answers' own.
use Rattle.std.specs.Prelude.{◌≡◌, ℕ, List, Some, None, codes, Option, ◌≢◌}
use Rattle.model.specs.declared.weights.LoadKind.{LoadKind}
use Rattle.report.specs.Texts.{figure_word, drawing_word}
use Rattle.model.specs.Weights.{kind_word}
use Rattle.script.specs.declared.words.Setter.{Setter}
use Rattle.script.specs.declared.words.Setter.TheVariants.{Kerbs, Factors, Reduce, Posted, Withdraw}
use Rattle.script.specs.declared.words.Rater.TheVariants.{Figure, Drawing}
use Rattle.script.specs.declared.words.Verb.{Verb}
use Rattle.script.specs.declared.words.Verb.TheVariants.{Sets, Rates}
use Rattle.script.specs.declared.words.Turn.{Turn}
use Rattle.script.specs.declared.words.Turn.TheVariants.{Sides, Ends, Opposite}

abbrev pub edge_word : List ℕ
edge_word = codes "edge"

abbrev pub turned_word : List ℕ
turned_word = codes "turned"

abbrev pub open_word : List ℕ
open_word = codes "open"

abbrev pub verb_word : Verb → List ℕ
verb_word (Sets Kerbs) = codes "kerbs"
verb_word (Sets Factors) = codes "factors"
verb_word (Sets Reduce) = codes "reduce"
verb_word (Sets Posted) = codes "posted"
verb_word (Sets Withdraw) = codes "withdraw"
verb_word (Rates Figure) = figure_word
verb_word (Rates Drawing) = drawing_word

abbrev pub turn_word : Turn → List ℕ
turn_word Sides = codes "sides"
turn_word Ends = codes "ends"
turn_word Opposite = codes "opposite"

-- the bytes are the word of what is named, or of nothing
abbrev pub Named : {X : Type 0} → (X → List ℕ) → List ℕ → Option X → Type 0
Named word bs (Some x) = bs ≡ word x
Named {X} word bs None = (x : X) → bs ≢ word x

abbrev pub VerbOf : List ℕ → Option Verb → Type 0
VerbOf = Named verb_word

abbrev pub KindOf : List ℕ → Option LoadKind → Type 0
KindOf = Named kind_word

abbrev pub TurnOf : List ℕ → Option Turn → Type 0
TurnOf = Named turn_word

-- how many numbers a call takes that takes numbers alone
abbrev pub setter_count : Setter → ℕ
setter_count Kerbs = 2
setter_count Factors = 8
setter_count Reduce = 8
setter_count Posted = 2
setter_count Withdraw = 2
