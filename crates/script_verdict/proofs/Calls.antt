-- The call that a record says is determined, and so is why it says none.
use Rattle.std.proofs.Common.{◌≡◌, ℕ, List, [], length, sym, refl, ap, ◌∙◌, subst, ⊎_elim, arith}
use Rattle.table.specs.Cells.{Cell, content}
use Rattle.table.specs.Numbers.{Counts}
use Rattle.table.specs.declared.fault.TextFault.{TextFault}
use Rattle.records.proofs.Progress.{written_length}
use Rattle.model.specs.declared.weights.LoadKind.{LoadKind}
use Rattle.card.specs.Ample.{ample}
use Rattle.card.specs.declared.calls.Call.{Call}
use Rattle.card.specs.declared.calls.Lengths.{Lengths}
use Rattle.script.specs.Calls.{setter_call, rater_call, lengths_of, SetBy, LentBy, RatesBy, NotRated, Said, Unsaid}
use Rattle.script.specs.Calls as calls
use Rattle.script.specs.Rest.{NotNumbers}
use Rattle.script.specs.Words.{verb_word, setter_count}
use Rattle.script.specs.declared.words.Setter.{Setter}
use Rattle.script.specs.declared.words.Rater.{Rater}
use Rattle.script.specs.declared.words.Verb.TheVariants.{Sets, Rates}
use Rattle.script_verdict.proofs.Entries.{SaysOne}
use Rattle.script_verdict.proofs.Numbers.{missed_unique, missed_not, naturals_unique, not_numbers_unique, not_numbers_not}
use Rattle.script_verdict.proofs.Words.{verb_unique, kind_unique}

-- ---- the word of a call

same_setter : (bs : List ℕ) (v u : Setter) → bs ≡ verb_word (Sets v) → bs ≡ verb_word (Sets u) → v ≡ u
same_setter bs v u a b = let e = verb_unique bs (Sets v) (Sets u) a b in cc

same_rater : (bs : List ℕ) (v u : Rater) → bs ≡ verb_word (Rates v) → bs ≡ verb_word (Rates u) → v ≡ u
same_rater bs v u a b = let e = verb_unique bs (Rates v) (Rates u) a b in cc

no_both : (bs : List ℕ) (v : Setter) (u : Rater) → bs ≡ verb_word (Sets v) → bs ≡ verb_word (Rates u) → ⊥
no_both bs v u a b = let e = verb_unique bs (Sets v) (Rates u) a b in let z : ◌≡◌ {A = ℕ} 0 1 = cc in omega arith

-- ---- calls that take numbers alone

set_unique : (v : Setter) (ds : List Cell) (j k : Call) → SetBy v ds j → SetBy v ds k → j ≡ k
set_unique v ds j k a b = a.call ∙ ap (setter_call v) (naturals_unique ds a.numbers b.numbers a.written b.written) ∙ sym b.call

-- ---- calls that rate

lent_unique : (ds : List Cell) (l m : Lengths) → LentBy ds l → LentBy ds m → l ≡ m
lent_unique ds l m a b = a.lengths ∙ ap lengths_of (naturals_unique ds a.numbers b.numbers a.written b.written) ∙ sym b.lengths

lent_four : (ds : List Cell) (l : Lengths) → LentBy ds l → length ds ≡ 4
lent_four ds l a = sym (written_length Counts ds a.numbers a.written) ∙ a.count

rates_unique : {v : Rater} {ds : List Cell} {j k : Call} → RatesBy v ds j → RatesBy v ds k → j ≡ k
rates_unique {v} (calls.amply c kind w) (calls.amply _ kind' w') = ap (λ (t : LoadKind). rater_call v t ample) (kind_unique (content c) kind kind' w w')
rates_unique (calls.amply c kind w) (calls.lending _ ds kind' l w' b) = absurd (omega (arith, lent_four [] l b))
rates_unique (calls.lending c ds kind l w b) (calls.amply _ kind' w') = absurd (omega (arith, lent_four [] l b))
rates_unique {v} (calls.lending c ds kind l w b) (calls.lending _ _ kind' m w' d) =
    ap (λ (t : LoadKind). rater_call v t l) (kind_unique (content c) kind kind' w w') ∙ ap (rater_call v kind') (lent_unique ds l m b d)

not_rated_unique : {rec : ℕ} {ds : List Cell} {t u : TextFault} → NotRated rec ds t → NotRated rec ds u → t ≡ u
not_rated_unique (calls.count ds one five) (calls.count _ _ _) = refl
not_rated_unique (calls.count _ one five) (calls.kind k ds many none) = absurd (⊎_elim (λ e. one (omega arith)) (λ e. five (omega arith)) many)
not_rated_unique (calls.count _ one five) (calls.number k ds kind e w many m) = absurd (five (omega arith))
not_rated_unique (calls.kind k ds many none) (calls.count _ one five) = absurd (⊎_elim (λ e. one (omega arith)) (λ e. five (omega arith)) many)
not_rated_unique (calls.kind k ds many none) (calls.kind _ _ _ _) = refl
not_rated_unique (calls.kind k ds many none) (calls.number _ _ kind e w _ m) = absurd (none kind w)
not_rated_unique (calls.number k ds kind e w many m) (calls.count _ one five) = absurd (five (omega arith))
not_rated_unique (calls.number k ds kind e w many m) (calls.kind _ _ _ none) = absurd (none kind w)
not_rated_unique {rec} (calls.number k ds kind t w many m) (calls.number _ _ kind' u w' _ n) = missed_unique Counts ds rec 3 t u m n

rates_not : {rec : ℕ} {v : Rater} {ds : List Cell} {j : Call} {t : TextFault} → RatesBy v ds j → NotRated rec ds t → ⊥
rates_not (calls.amply c kind w) (calls.count _ one five) = one refl
rates_not (calls.amply c kind w) (calls.kind _ _ many none) = none kind w
rates_not (calls.amply c kind w) (calls.number _ _ kind' e w' many m) = omega arith
rates_not (calls.lending c ds kind l w b) (calls.count _ one five) = five (omega (arith, lent_four ds l b))
rates_not (calls.lending c ds kind l w b) (calls.kind _ _ many none) = none kind w
rates_not {rec} (calls.lending c ds kind l w b) (calls.number _ _ kind' e w' many m) = missed_not Counts ds rec 3 b.numbers e b.written m

-- ---- calls

call_unique : {cs : List Cell} {j k : Call} → Said cs j → Said cs k → j ≡ k
call_unique (calls.sets c ds v j w a) (calls.sets _ _ u k x b) = set_unique v ds j k a (subst (λ (s : Setter). SetBy s ds k) (same_setter (content c) u v x w) b)
call_unique (calls.sets c ds v j w a) (calls.rates _ _ u k x b) = absurd (no_both (content c) v u w x)
call_unique (calls.rates c ds v j w a) (calls.sets _ _ u k x b) = absurd (no_both (content c) u v x w)
call_unique (calls.rates c ds v j w a) (calls.rates _ _ u k x b) = rates_unique a (subst (λ (s : Rater). RatesBy s ds k) (same_rater (content c) u v x w) b)

fault_unique : {rec : ℕ} {cs : List Cell} {s t : TextFault} → Unsaid rec cs s → Unsaid rec cs t → s ≡ t
fault_unique (calls.word c ds none) (calls.word _ _ _) = refl
fault_unique (calls.word c ds none) (calls.numbers _ _ v e w b) = absurd (none (Sets v) w)
fault_unique (calls.word c ds none) (calls.rating _ _ v e w b) = absurd (none (Rates v) w)
fault_unique (calls.numbers c ds v e w a) (calls.word _ _ none) = absurd (none (Sets v) w)
fault_unique {rec} (calls.numbers c ds v s w a) (calls.numbers _ _ u t x b) =
    not_numbers_unique rec (setter_count v) ds s t a (subst (λ (y : Setter). NotNumbers rec (setter_count y) ds t) (same_setter (content c) u v x w) b)
fault_unique (calls.numbers c ds v s w a) (calls.rating _ _ u t x b) = absurd (no_both (content c) v u w x)
fault_unique (calls.rating c ds v e w a) (calls.word _ _ none) = absurd (none (Rates v) w)
fault_unique (calls.rating c ds v s w a) (calls.numbers _ _ u t x b) = absurd (no_both (content c) u v x w)
fault_unique (calls.rating c ds v s w a) (calls.rating _ _ u t x b) = not_rated_unique a b

call_not : {rec : ℕ} {cs : List Cell} {j : Call} {t : TextFault} → Said cs j → Unsaid rec cs t → ⊥
call_not (calls.sets c ds v j w a) (calls.word _ _ none) = none (Sets v) w
call_not {rec} (calls.sets c ds v j w a) (calls.numbers _ _ u t x b) =
    not_numbers_not rec (setter_count u) ds a.numbers t a.written (a.count ∙ ap setter_count (same_setter (content c) v u w x)) b
call_not (calls.sets c ds v j w a) (calls.rating _ _ u t x b) = no_both (content c) v u w x
call_not (calls.rates c ds v j w a) (calls.word _ _ none) = none (Rates v) w
call_not (calls.rates c ds v j w a) (calls.numbers _ _ u t x b) = no_both (content c) u v x w
call_not (calls.rates c ds v j w a) (calls.rating _ _ u t x b) = rates_not a b

pub call_one : SaysOne Said Unsaid
call_one = record { entry = λ cs j k a b. call_unique a b; fault = λ rec cs s t a b. fault_unique a b; never = λ rec cs j t a b. call_not a b }
