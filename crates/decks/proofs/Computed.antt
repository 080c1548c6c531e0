-- Tests that are computed over every number below a bound, and over two lists of owners.
use Rattle.std.proofs.Common.{◌≡◌, ℕ, zero, suc, ◌<◌, Bool, true, false, ◌&&◌, ◌||◌, eqb, ltb, List, [], ◌∷◌, refl, ap, ◌∙◌, inl, inr, ⊎_elim, arith}
use Rattle.std.proofs.lemmas.Bool.{cases_eq, and_parts, or_cases, both_ways, ltb-true, eqb-true}
use Rattle.placing.specs.Placing.{Before}

unfoldable pub all_below : ℕ → (ℕ → Bool) → Bool
all_below zero P = true
all_below (suc n) P = P n && all_below n P

pub each_below : (n : ℕ) (P : ℕ → Bool) → all_below n P ≡ true → (i : ℕ) → i < n → P i ≡ true
unfolding all_below
each_below zero P e i h = absurd (omega arith)
each_below (suc n) P e i h =
    let p = and_parts (P n) _ e in
    ⊎_elim (λ (q : i ≡ n). ap P q ∙ p.0) (λ (q : i ≡ n → ⊥). each_below n P p.1 i (omega arith)) (cases_eq i n)

unfoldable pub comes_first : List ℕ → List ℕ → Bool
comes_first [] ys = true
comes_first (x ∷ xs) [] = false
comes_first (x ∷ xs) (y ∷ ys) = ltb x y || (eqb x y && comes_first xs ys)

pub before_is : (xs ys : List ℕ) → comes_first xs ys ≡ true → Before xs ys
unfolding comes_first
before_is [] ys e = tt
before_is (x ∷ xs) [] e = absurd (both_ways false refl e)
before_is (x ∷ xs) (y ∷ ys) e = ⊎_elim
    (λ (l : ltb x y ≡ true). inl (ltb-true x y l))
    (λ (l : (eqb x y && comes_first xs ys) ≡ true). let p = and_parts (eqb x y) _ l in inr (eqb-true x y p.0, before_is xs ys p.1))
    (or_cases (ltb x y) _ e)
