-- What the opening and the calls of a script say.
use Rattle.std.specs.Prelude.{◌≡◌, ℕ, ◌⊎◌, List, [], ◌∷◌, length, ◌≢◌, slice_index}
use Rattle.table.specs.Cells.{Cell, content}
use Rattle.table.specs.Numbers.{Counts}
use Rattle.table.specs.declared.fault.TextFault.{TextFault}
use Rattle.table.specs.declared.fault.TextFault.TheVariants.{Malformed}
use Rattle.records.specs.Numbers.{Missed}
use Rattle.model.specs.declared.lanes.Carriageway.{Carriageway}
use Rattle.model.specs.declared.weights.Factors.{Factors as FactorSet}
use Rattle.model.specs.declared.weights.LoadKind.{LoadKind}
use Rattle.card.specs.Ample.{ample}
use Rattle.card.specs.declared.calls.Call.{Call}
use Rattle.card.specs.declared.calls.Call.TheVariants.{Kerbs as SetKerbs, Factors as SetFactors, Reduce as CallReduce, Posted as CallPosted, Withdraw as CallWithdraw, Figure as CallFigure, Drawing as CallDrawing}
use Rattle.card.specs.declared.calls.Lengths.{Lengths}
use Rattle.script.specs.declared.words.Setter.{Setter}
use Rattle.script.specs.declared.words.Setter.TheVariants.{Kerbs, Factors, Reduce, Posted, Withdraw}
use Rattle.script.specs.declared.words.Rater.{Rater}
use Rattle.script.specs.declared.words.Rater.TheVariants.{Figure, Drawing}
use Rattle.script.specs.declared.words.Verb.{Verb}
use Rattle.script.specs.declared.words.Verb.TheVariants.{Sets, Rates}
use Rattle.script.specs.Rest.{Naturals, NotNumbers}
use Rattle.model.specs.Weights.{kind_word}
use Rattle.script.specs.Words.{open_word, verb_word, setter_count}

-- ---- opening: the word, the job's number, the first slice and the width

pub data Opens : List Cell → ℕ → Carriageway → Type 0 where
  says : (c : Cell) (ds : List Cell) (number first width : ℕ) → content c ≡ open_word → Naturals ds (number ∷ first ∷ width ∷ []) → Opens (c ∷ ds) number (record { first = first; width = width })

pub data Unopened (rec : ℕ) : List Cell → TextFault → Type 0 where
  word : (c : Cell) (ds : List Cell) → (content c ≢ open_word) → Unopened rec (c ∷ ds) (Malformed rec 1)
  numbers : (c : Cell) (ds : List Cell) (e : TextFault) → content c ≡ open_word → NotNumbers rec 3 ds e → Unopened rec (c ∷ ds) e

-- ---- calls

abbrev pub factors_of : List ℕ → FactorSet
factors_of ns = record {
  tandem1 = slice_index ns 0;
  tandem2 = slice_index ns 1;
  tandem3 = slice_index ns 2;
  uniform1 = slice_index ns 3;
  uniform2 = slice_index ns 4;
  uniform3 = slice_index ns 5;
  others = slice_index ns 6;
  remaining = slice_index ns 7;
}

-- the call that these numbers make
abbrev pub setter_call : Setter → List ℕ → Call
setter_call Kerbs ns = SetKerbs (record { first = slice_index ns 0; width = slice_index ns 1 })
setter_call Factors ns = SetFactors (factors_of ns)
setter_call Reduce ns = CallReduce (factors_of ns)
setter_call Posted ns = CallPosted (slice_index ns 0) (slice_index ns 1)
setter_call Withdraw ns = CallWithdraw (slice_index ns 0) (slice_index ns 1)

abbrev pub rater_call : Rater → LoadKind → Lengths → Call
rater_call Figure kind l = CallFigure kind l
rater_call Drawing kind l = CallDrawing kind l

abbrev pub lengths_of : List ℕ → Lengths
lengths_of ns = record { areas = slice_index ns 0; tandems = slice_index ns 1; bests = slice_index ns 2; owners = slice_index ns 3 }

-- the numbers that follow the word of a call make this call
pub record SetBy (v : Setter) (ds : List Cell) (k : Call) : Type 0 where
  pub numbers : List ℕ
  pub written : Naturals ds numbers
  pub count : length numbers ≡ setter_count v
  pub call : k ≡ setter_call v numbers

-- four numbers make these lengths
pub record LentBy (ds : List Cell) (l : Lengths) : Type 0 where
  pub numbers : List ℕ
  pub written : Naturals ds numbers
  pub count : length numbers ≡ 4
  pub lengths : l ≡ lengths_of numbers

-- the fields after the word of a rating: its kind, and perhaps four lengths; without them enough is lent for any kerbs
pub data RatesBy (v : Rater) : List Cell → Call → Type 0 where
  amply : (k : Cell) (kind : LoadKind) → content k ≡ kind_word kind → RatesBy v (k ∷ []) (rater_call v kind ample)
  lending : (k : Cell) (ds : List Cell) (kind : LoadKind) (l : Lengths) → content k ≡ kind_word kind → LentBy ds l → RatesBy v (k ∷ ds) (rater_call v kind l)

-- why they are refused: their number, then the kind, then the leftmost length that is no number
pub data NotRated (rec : ℕ) : List Cell → TextFault → Type 0 where
  count : (ds : List Cell) → (length ds ≢ 1) → (length ds ≢ 5) → NotRated rec ds (Malformed rec 0)
  kind : (k : Cell) (ds : List Cell) → (length ds ≡ 0) ⊎ (length ds ≡ 4) → ((kind : LoadKind) → content k ≢ kind_word kind) → NotRated rec (k ∷ ds) (Malformed rec 2)
  number : (k : Cell) (ds : List Cell) (kind : LoadKind) (e : TextFault) → content k ≡ kind_word kind → length ds ≡ 4 → Missed Counts ds rec 3 e → NotRated rec (k ∷ ds) e

-- the record says this call
pub data Said : List Cell → Call → Type 0 where
  sets : (c : Cell) (ds : List Cell) (v : Setter) (k : Call) → content c ≡ verb_word (Sets v) → SetBy v ds k → Said (c ∷ ds) k
  rates : (c : Cell) (ds : List Cell) (v : Rater) (k : Call) → content c ≡ verb_word (Rates v) → RatesBy v ds k → Said (c ∷ ds) k

-- why it says none: its word, then what follows the word
pub data Unsaid (rec : ℕ) : List Cell → TextFault → Type 0 where
  word : (c : Cell) (ds : List Cell) → ((v : Verb) → content c ≢ verb_word v) → Unsaid rec (c ∷ ds) (Malformed rec 1)
  numbers : (c : Cell) (ds : List Cell) (v : Setter) (e : TextFault) → content c ≡ verb_word (Sets v) → NotNumbers rec (setter_count v) ds e → Unsaid rec (c ∷ ds) e
  rating : (c : Cell) (ds : List Cell) (v : Rater) (e : TextFault) → content c ≡ verb_word (Rates v) → NotRated rec ds e → Unsaid rec (c ∷ ds) e
