-- Words determine what they name.
use Rattle.std.proofs.Common.{◌≡◌, ℕ, cond, eqb, List, get_or, sym, refl, ap, ◌∙◌}
use Rattle.model.specs.declared.weights.LoadKind.{LoadKind}
use Rattle.model.specs.declared.weights.LoadKind.TheVariants.{Characteristic, Frequent}
use Rattle.model.specs.Weights.{kind_word}
use Rattle.script.specs.Words.{verb_word, turn_word}
use Rattle.script.specs.declared.words.Setter.TheVariants.{Kerbs, Factors, Reduce, Posted, Withdraw}
use Rattle.script.specs.declared.words.Rater.TheVariants.{Figure, Drawing}
use Rattle.script.specs.declared.words.Verb.{Verb}
use Rattle.script.specs.declared.words.Verb.TheVariants.{Sets, Rates}
use Rattle.script.specs.declared.words.Turn.{Turn}
use Rattle.script.specs.declared.words.Turn.TheVariants.{Sides, Ends, Opposite}

-- where each thing is told by its word, the same bytes name the same thing
told_apart : {X : Type 0} (word : X → List ℕ) (back : List ℕ → X) → ((x : X) → back (word x) ≡ x) → (bs : List ℕ) (x y : X) → bs ≡ word x → bs ≡ word y → x ≡ y
told_apart word back is bs x y a b = sym (is x) ∙ ap back (sym a ∙ b) ∙ is y

-- calls by the third letter of their words
abbrev verb_by : List ℕ → Verb
verb_by bs =
    cond (eqb (get_or bs 2 0) 114) (Sets Kerbs)
    (cond (eqb (get_or bs 2 0) 99) (Sets Factors)
    (cond (eqb (get_or bs 2 0) 100) (Sets Reduce)
    (cond (eqb (get_or bs 2 0) 115) (Sets Posted)
    (cond (eqb (get_or bs 2 0) 116) (Sets Withdraw)
    (cond (eqb (get_or bs 2 0) 103) (Rates Figure) (Rates Drawing))))))

verb_is : (v : Verb) → verb_by (verb_word v) ≡ v
verb_is (Sets Kerbs) = refl
verb_is (Sets Factors) = refl
verb_is (Sets Reduce) = refl
verb_is (Sets Posted) = refl
verb_is (Sets Withdraw) = refl
verb_is (Rates Figure) = refl
verb_is (Rates Drawing) = refl

pub verb_unique : (bs : List ℕ) (v w : Verb) → bs ≡ verb_word v → bs ≡ verb_word w → v ≡ w
verb_unique = told_apart verb_word verb_by verb_is

-- kinds of load and turns by the first letter
abbrev kind_by : List ℕ → LoadKind
kind_by bs = cond (eqb (get_or bs 0 0) 99) Characteristic Frequent

kind_is : (k : LoadKind) → kind_by (kind_word k) ≡ k
kind_is Characteristic = refl
kind_is Frequent = refl

pub kind_unique : (bs : List ℕ) (k l : LoadKind) → bs ≡ kind_word k → bs ≡ kind_word l → k ≡ l
kind_unique = told_apart kind_word kind_by kind_is

abbrev turn_by : List ℕ → Turn
turn_by bs = cond (eqb (get_or bs 0 0) 115) Sides (cond (eqb (get_or bs 0 0) 101) Ends Opposite)

turn_is : (t : Turn) → turn_by (turn_word t) ≡ t
turn_is Sides = refl
turn_is Ends = refl
turn_is Opposite = refl

pub turn_unique : (bs : List ℕ) (t u : Turn) → bs ≡ turn_word t → bs ≡ turn_word u → t ≡ u
turn_unique = told_apart turn_word turn_by turn_is
