-- How many slices have an owner, one slice further on.
use Rattle.std.proofs.Common.{◌≡◌, ℕ, zero, suc, ◌+◌, ◌<◌, ◌≤◌, true, false, List, length, get_or, take, sym, refl, ap, ◌∙◌, subst, ⊎_elim, add-one, arith}
use Rattle.std.specs.Prelude.{◌==◌, count_by}
use Rattle.std.proofs.lemmas.Bool.{cases_eq}
use Rattle.std.proofs.lemmas.List.Sums.{count_by_more_no, count_by_more_yes}
use Rattle.std.proofs.lemmas.Bool.Decides.{nat_tests}
use Rattle.algebra.specs.Sums.{total}
use Rattle.report.specs.Shown.{Begins, count_of, owned}

pub count_none : (owners : List ℕ) (o : ℕ) → count_of owners 0 o ≡ 0
unfolding count_of
count_none owners o = refl

one_more : (owners : List ℕ) (n o : ℕ) → count_of owners (n + 1) o ≡ count_of owners n o + owned owners o n
unfolding count_of
one_more owners n o = ap (λ (m : ℕ). total m (owned owners o)) (add-one n)

pub count_more : (owners : List ℕ) (n o : ℕ) → get_or owners n 0 ≡ o → count_of owners (n + 1) o ≡ count_of owners n o + 1
count_more owners n o is =
    let e = one_more owners n o in
    let one : owned owners o n ≡ 1 = grind (arith, nat_tests) in
    omega arith

pub count_same : (owners : List ℕ) (n o : ℕ) → (get_or owners n 0 ≡ o → ⊥) → count_of owners (n + 1) o ≡ count_of owners n o
count_same owners n o apart =
    let e = one_more owners n o in
    let none : owned owners o n ≡ 0 = grind (arith, nat_tests) in
    omega arith

pub begins_at : {owner before before' width width' : ℕ} → Begins owner before width → before ≡ before' → width ≡ width' → Begins owner before' width'
begins_at {owner} {before} {before'} {width} {width'} b eb ew =
    subst (λ (w : ℕ). Begins owner before' w) ew (subst (λ (n : ℕ). Begins owner n width) eb b)

Counted : List ℕ → ℕ → ℕ → Type 0
Counted owners o n = count_by (λ x. x == o) (take n owners) ≡ count_of owners n o

one_counted : (owners : List ℕ) (o n : ℕ) → n < length owners → Counted owners o n → Counted owners o (n + 1)
unfolding Counted
one_counted owners o n h before = ⊎_elim
    (λ (e : get_or owners n 0 ≡ o).
    let yes : (get_or owners n 0 == o) ≡ true = grind (arith, nat_tests) in
    count_by_more_yes (λ x. x == o) owners n 0 h yes ∙ ap (λ m. m + 1) before ∙ sym (count_more owners n o e))
    (λ (e : get_or owners n 0 ≡ o → ⊥).
    let no : (get_or owners n 0 == o) ≡ false = grind (arith, nat_tests) in
    count_by_more_no (λ x. x == o) owners n 0 h no ∙ before ∙ sym (count_same owners n o e))
    (cases_eq (get_or owners n 0) o)

-- the slices of an owner, counted along the list
pub counted : (owners : List ℕ) (o n : ℕ) → n ≤ length owners → count_by (λ x. x == o) (take n owners) ≡ count_of owners n o
unfolding Counted
counted owners o zero h = sym (count_none owners o)
counted owners o (suc n) h = subst (Counted owners o) (add-one n) (one_counted owners o n (omega arith) (counted owners o n (omega arith)))
