-- What a record says, from its word and what follows the word.
use Rattle.std.proofs.Common.{◌≡◌, ℕ, ◌+◌, ◌⊎◌, List, [], ◌∷◌, length, ℤ, Ok, Err, Result, sym, ap, ◌∙◌, subst, arith, MatchResult}
use Rattle.std.proofs.lemmas.List.{nil_from_length}
use Rattle.table.specs.Cells.{Cell, content}
use Rattle.table.specs.Numbers.{Writes, Counts}
use Rattle.table.specs.declared.fault.TextFault.{TextFault}
use Rattle.table.specs.declared.fault.TextFault.TheVariants.{Malformed}
use Rattle.records.specs.Numbers.{Written, Missed}
use Rattle.records.proofs.Progress.{written_length}
use Rattle.card.specs.Ample.{ample}
use Rattle.card.specs.declared.calls.Call.{Call}
use Rattle.card.specs.declared.calls.Lengths.{Lengths}
use Rattle.model.specs.declared.weights.LoadKind.{LoadKind}
use Rattle.script.specs.Calls.{Opens, Unopened, RatesBy, NotRated, Said, Unsaid, SetBy, LentBy, rater_call, setter_call}
use Rattle.script.specs.Calls as calls
use Rattle.script.specs.Edges.{EdgeHeaded, EdgeUnheaded}
use Rattle.script.specs.Edges as edges
use Rattle.script.specs.Lines.{Split}
use Rattle.script.specs.Rest.{Naturals, NotNumbers}
use Rattle.script.specs.Rest as numbers
use Rattle.model.specs.Weights.{kind_word}
use Rattle.script.specs.Words.{open_word, verb_word, setter_count}
use Rattle.script.specs.declared.words.Rater.{Rater}
use Rattle.script.specs.declared.words.Setter.{Setter}
use Rattle.script.specs.declared.words.Verb.{Verb}
use Rattle.script.specs.declared.words.Verb.TheVariants.{Sets, Rates}

-- as many numbers as the call takes make it
pub set_by : (v : Setter) (ds : List Cell) (ns : List ℕ) → length ds ≡ setter_count v → Naturals ds ns → (k : Call) → k ≡ setter_call v ns → SetBy v ds k
set_by v ds ns few w k is = record { numbers = ns; written = w; count = written_length Counts ds ns w ∙ few; call = is }

-- as many fields as there should be are numbers, or one of them is not
pub counted_numbers : (rec n : ℕ) (ds : List Cell) → length ds ≡ n → (r : Result (List ℕ) TextFault) → MatchResult r (Naturals ds) (Missed Counts ds rec 2)
    → MatchResult r (λ ns. (length ds ≡ n) × Naturals ds ns) (NotNumbers rec n ds)
counted_numbers rec n ds is (Ok ns) w = (is, w)
counted_numbers rec n ds is (Err e) m = numbers.number e is m

module _ {cs : List Cell} {c : Cell} {rest ys : List ℕ} (s : Split cs c rest ys) where
  pub others_long : {n : ℕ} → length cs ≡ n → length s.others + 1 ≡ n
  others_long e = omega (arith, ap length s.splits)

  said : (k : Call) → Said (c ∷ s.others) k → Said cs k
  said k = subst (λ (l : List Cell). Said l k) (sym s.splits)

  unsaid : (rec : ℕ) (e : TextFault) → Unsaid rec (c ∷ s.others) e → Unsaid rec cs e
  unsaid rec e = subst (λ (l : List Cell). Unsaid rec l e) (sym s.splits)

  pub said_by_numbers : (v : Setter) (rec : ℕ) (r : Result Call TextFault) → content c ≡ verb_word (Sets v) → MatchResult r (SetBy v s.others) (NotNumbers rec (setter_count v) s.others) → MatchResult r (Said cs) (Unsaid rec cs)
  said_by_numbers v rec (Ok k) w b = said k (calls.sets c s.others v k w b)
  said_by_numbers v rec (Err e) w n = unsaid rec e (calls.numbers c s.others v e w n)

  pub said_by_rating : (v : Rater) (rec : ℕ) (r : Result Call TextFault) → content c ≡ verb_word (Rates v) → MatchResult r (RatesBy v s.others) (NotRated rec s.others) → MatchResult r (Said cs) (Unsaid rec cs)
  said_by_rating v rec (Ok k) w b = said k (calls.rates c s.others v k w b)
  said_by_rating v rec (Err e) w n = unsaid rec e (calls.rating c s.others v e w n)

  pub unsaid_word : (rec : ℕ) → ((v : Verb) → content c ≡ verb_word v → ⊥) → Unsaid rec cs (Malformed rec 1)
  unsaid_word rec none = unsaid rec _ (calls.word c s.others none)

  -- ---- what follows the word of a rating

  pub rated_amply : (v : Rater) (kind : LoadKind) (k : Call) → length s.others ≡ 0 → content c ≡ kind_word kind → k ≡ rater_call v kind ample → RatesBy v cs k
  rated_amply v kind k none w is =
      let alone : c ∷ [] ≡ cs = ap (λ (l : List Cell). c ∷ l) (sym (nil_from_length s.others none)) ∙ sym s.splits in
      subst (RatesBy v cs) (sym is) (subst (λ (l : List Cell). RatesBy v l (rater_call v kind ample)) alone (calls.amply c kind w))

  pub rated_lending : (v : Rater) (kind : LoadKind) (l : Lengths) (k : Call) → content c ≡ kind_word kind → LentBy s.others l → k ≡ rater_call v kind l → RatesBy v cs k
  rated_lending v kind l k w b is = subst (RatesBy v cs) (sym is) (subst (λ (x : List Cell). RatesBy v x (rater_call v kind l)) (sym s.splits) (calls.lending c s.others kind l w b))

  pub not_rated_kind : (rec : ℕ) → (length s.others ≡ 0) ⊎ (length s.others ≡ 4) → ((kind : LoadKind) → content c ≡ kind_word kind → ⊥) → NotRated rec cs (Malformed rec 2)
  not_rated_kind rec n none = subst (λ (x : List Cell). NotRated rec x (Malformed rec 2)) (sym s.splits) (calls.kind c s.others n none)

  pub not_rated_number : (rec : ℕ) (kind : LoadKind) (e : TextFault) → content c ≡ kind_word kind → length s.others ≡ 4 → Missed Counts s.others rec 3 e → NotRated rec cs e
  not_rated_number rec kind e w n m = subst (λ (x : List Cell). NotRated rec x e) (sym s.splits) (calls.number c s.others kind e w n m)

  -- ---- opening

  unopened : (rec : ℕ) (e : TextFault) → Unopened rec (c ∷ s.others) e → Unopened rec cs e
  unopened rec e = subst (λ (l : List Cell). Unopened rec l e) (sym s.splits)

  pub unopened_word : (rec : ℕ) → (content c ≡ open_word → ⊥) → Unopened rec cs (Malformed rec 1)
  unopened_word rec none = unopened rec _ (calls.word c s.others none)

  pub unopened_numbers : (rec : ℕ) (e : TextFault) → content c ≡ open_word → NotNumbers rec 3 s.others e → Unopened rec cs e
  unopened_numbers rec e w n = unopened rec e (calls.numbers c s.others e w n)

  pub opens : (number first width : ℕ) → content c ≡ open_word → Naturals s.others (number ∷ first ∷ width ∷ []) → Opens cs number (record { first = first; width = width })
  opens number first width w n = subst (λ (l : List Cell). Opens l number (record { first = first; width = width })) (sym s.splits) (calls.says c s.others number first width w n)

  -- ---- an edge surface's header

  unheaded : (e : TextFault) → EdgeUnheaded (c ∷ s.others) e → EdgeUnheaded cs e
  unheaded e = subst (λ (l : List Cell). EdgeUnheaded l e) (sym s.splits)

  pub unheaded_count : (length s.others ≡ 3 → ⊥) → EdgeUnheaded cs (Malformed 1 0)
  unheaded_count h = unheaded _ (edges.count c s.others h)

  pub unheaded_number : (e : TextFault) → length s.others ≡ 3 → Missed Writes s.others 1 2 e → EdgeUnheaded cs e
  unheaded_number e n m = unheaded e (edges.number c s.others e n m)

  pub edge_headed : (n f g : ℤ) → Written Writes s.others (n ∷ f ∷ g ∷ []) → EdgeHeaded cs n f g
  edge_headed n f g w = subst (λ (l : List Cell). EdgeHeaded l n f g) (sym s.splits) w
