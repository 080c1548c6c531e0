-- A list of calls, one after another.
use Rattle.std.proofs.Common.{◌≡◌, ℕ, zero, suc, ◌+◌, ◌<◌, List, [], ◌∷◌, ◌++◌, length, get_or, take, drop, set, Some, None, sym, refl, ap, ◌∙◌, subst, ⊎_elim, arith}
use Rattle.std.specs.List.{slice_get}
use Rattle.std.proofs.lemmas.List.{take_more, drop-drop, drop-set-lt}
use Rattle.std.proofs.lemmas.Bool.{cases_eq}
use Rattle.surface.specs.Shape.{Shape}
use Rattle.card.specs.Steps.{step, card_after}
use Rattle.card.specs.declared.answers.Answer.{Answer}
use Rattle.card.specs.declared.calls.Call.{Call}
use Rattle.card.specs.declared.entries.Card.{Card}
use Rattle.statement.specs.Runs.{Told}

card_push : (c : Card) (ks : List Call) (k : Call) → card_after c (ks ++ (k ∷ [])) ≡ step (card_after c ks) k
card_push c [] k = refl
card_push c (x ∷ ks) k = card_push (step c x) ks k

some_is : {X : Type 0} (x y : X) → Some x ≡ Some y → x ≡ y
some_is x y e = cc

none_some : {X Y : Type 0} (y : X) → None ≡ Some y → Y
none_some y e = let z : ◌≡◌ {A = ℕ} 0 1 = cc in absurd (omega arith)

nth_set_same : {X : Type 0} (xs : List X) (i : ℕ) (x : X) → i < length xs → slice_get (set xs i x) i ≡ Some x
nth_set_same [] i x h = absurd (omega arith)
nth_set_same (y ∷ xs) zero x h = refl
nth_set_same (y ∷ xs) (suc i) x h = nth_set_same xs i x (omega arith)

nth_set_other : {X : Type 0} (xs : List X) (i k : ℕ) (x : X) → k < i → slice_get (set xs i x) k ≡ slice_get xs k
nth_set_other [] i k x h = refl
nth_set_other (y ∷ xs) zero k x h = absurd (omega arith)
nth_set_other (y ∷ xs) (suc i) zero x h = refl
nth_set_other (y ∷ xs) (suc i) (suc k) x h = nth_set_other xs i k x (omega arith)

nth_is : {X : Type 0} (xs : List X) (i : ℕ) (d x : X) → slice_get xs i ≡ Some x → get_or xs i d ≡ x
nth_is [] i d x e = none_some x e
nth_is (y ∷ xs) zero d x e = some_is y x e
nth_is (y ∷ xs) (suc i) d x e = nth_is xs i d x e

pub nth_low : {X : Type 0} (xs : List X) (i : ℕ) (x : X) → slice_get xs i ≡ Some x → i < length xs
nth_low [] i x e = none_some x e
nth_low (y ∷ xs) zero x e = omega arith
nth_low (y ∷ xs) (suc i) x e = let h = nth_low xs i x e in omega arith

-- the answer to call k, told under the card that the calls before it leave
pub record AnsweredAt (s : Shape) (c₀ : Card) (calls : List Call) (answers : List Answer) (k : ℕ) (call : Call) : Type 0 where
  pub answer : Answer
  pub there : slice_get answers k ≡ Some answer
  pub told : Told s (card_after c₀ (take k calls)) call answer

-- the first i calls are made
pub record Sofar (s : Shape) (c₀ c : Card) (calls : List Call) (old new : List Answer) (i : ℕ) : Type 0 where
  pub card : c ≡ card_after c₀ (take i calls)
  pub each : (k : ℕ) (call : Call) → k < i → slice_get calls k ≡ Some call → AnsweredAt s c₀ calls new k call
  pub beyond : drop i new ≡ drop i old

pub sofar_none : (s : Shape) (c : Card) (calls : List Call) (old : List Answer) → Sofar s c c calls old old 0
sofar_none s c calls old = record { card = refl; each = λ k call h. absurd (omega arith); beyond = refl }

module _ (s : Shape) (c₀ c c' : Card) (calls : List Call) (old new : List Answer) (i : ℕ) (call : Call) (a : Answer) where
  pub sofar_more : Sofar s c₀ c calls old new i → i < length calls → i < length new → ((z : Call) → get_or calls i z ≡ call) → Told s c call a → c' ≡ step c call → Sofar s c₀ c' calls old (set new i a) (i + 1)
  sofar_more f within room read t onward = record {
    card = onward ∙ ap (λ x. step x call) f.card ∙ sym (ap (λ ks. card_after c₀ ks) (take_more calls i call within ∙ ap (λ x. take i calls ++ (x ∷ [])) (read call)) ∙ card_push c₀ (take i calls) call);
    each = λ k k_call h is. ⊎_elim
        (λ (e : k ≡ i).
        let q : call ≡ k_call = sym (read call) ∙ ap (λ j. get_or calls j call) (sym e) ∙ nth_is calls k call k_call is in
        let u : Told s (card_after c₀ (take k calls)) call a = subst (λ x. Told s x call a) (f.card ∙ ap (λ j. card_after c₀ (take j calls)) (sym e)) t in
        record { answer = a; there = ap (λ j. slice_get (set new i a) j) e ∙ nth_set_same new i a room; told = subst (λ x. Told s (card_after c₀ (take k calls)) x a) q u })
        (λ (e : k ≡ i → ⊥).
        let l : k < i = omega arith in
        let b = f.each k k_call l is in
        record { answer = b.answer; there = nth_set_other new i k a l ∙ b.there; told = b.told })
        (cases_eq k i);
    beyond = drop-set-lt (i + 1) new i a (omega arith) ∙ sym (drop-drop 1 i new) ∙ ap (λ l. drop 1 l) f.beyond ∙ drop-drop 1 i old;
  }
