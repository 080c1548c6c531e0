-- What may be arranged.
use Rattle.std.proofs.Common.{◌≡◌, ℕ, ◌+◌, ◌*◌, ◌<◌, ◌≤◌, eqb, [], Some, None, sym, refl, ◌∙◌, inl, inr, ⊎_elim, mul-le-mul_right, arith}
use Rattle.std.proofs.lemmas.Bool.{cases_lt, cases_eq, cond-true, cond-false, eq-eqb, ne_eqb}
use Rattle.model.specs.Lanes.{lanes_in, lane_slices}
use Rattle.statement.specs.Effects.{Place}
use Rattle.statement.specs.Permits.{EveryOrder, one_tandem, EveryPlace, NoTandem, EveryLoading}
use Rattle.statement.proofs.Effects.{none_some, some_is}

-- one lane's slices later
next : (a b l : ℕ) → a < b → a * l + l ≤ b * l
next a b l h = let le : a + 1 ≤ b = omega arith in omega (arith, mul-le-mul_right l le)

pub every_order : EveryOrder
every_order k order o from room =
    let l = lane_slices k.width in
    record {
      inside = λ i h. omega (arith, next (order i) (lanes_in k.width) l (o.among i h));
      apart = λ i j h g lt. ⊎_elim
          (λ (a : order i < order j). inl (omega (arith, next (order i) (order j) l a)))
          (λ (a : order j ≤ order i). ⊎_elim
          (λ (b : order j ≡ order i). absurd (omega (arith, o.own i j h g (sym b))))
          (λ (b : order j ≡ order i → ⊥). let c : order j < order i = omega arith in inr (omega (arith, next (order j) (order i) l c)))
          (cases_eq (order j) (order i)))
          (cases_lt (order i) (order j));
    }

tandem_is : (i j : ℕ) (p q : Place) → one_tandem i p j ≡ Some q → p ≡ q
tandem_is i j p q e = ⊎_elim
    (λ (h : j ≡ i). some_is p q (sym (cond-true (eqb j i) (Some p) None (eq-eqb j i h)) ∙ e))
    (λ (h : j ≡ i → ⊥). none_some q (sym (cond-false (eqb j i) (Some p) None (ne_eqb j i h)) ∙ e))
    (cases_eq j i)

pub every_place : EveryPlace
every_place g starts laid load i num den low some room = record {
  laid = laid;
  only = λ j n h. cond-false (eqb j i) _ None (ne_eqb j i (λ e. omega arith));
  stands = λ j p n e.
      let s = tandem_is i j (record { num = num; den = den }) p e in
      let a : num ≡ p.num = cc in
      let b : den ≡ p.den = cc in
      rw (← a, ← b) (record { some = some; fits = room });
}

pub no_tandem : NoTandem
no_tandem g starts laid load = record { laid = laid; only = λ i n h. refl; stands = λ i p n e. none_some p e }

pub every_loading : EveryLoading
every_loading = record {
  none = λ m h. record { loading = record { parts = m; some = h; stretches = []; apart = omega arith }; parts = refl; same = refl };
  one = λ m p q h a b. record { loading = record { parts = m; some = h; stretches = _; apart = (omega arith, a, b) }; parts = refl; same = refl };
  two = λ m p q r s h a b c d. record { loading = record { parts = m; some = h; stretches = _; apart = (omega arith, a, (b, c, d)) }; parts = refl; same = refl };
  three = λ m p q r s t u h a b c d e f. record { loading = record { parts = m; some = h; stretches = _; apart = (omega arith, a, (b, c, (d, e, f))) }; parts = refl; same = refl };
}
