-- The best place so far, from one place tried to the next.
use Rattle.std.proofs.Common.{◌≡◌, ℕ, ◌+◌, ◌-◌, ◌*◌, ◌/◌, ◌%◌, ◌<◌, ◌≤◌, min, max, Bool, true, false, eqb, ltb, ℤ, pos, negsuc, ◌*ℤ◌, nat_abs, ◌≤ℤ◌, Some, None, Option, MatchOption, sym, refl, ap, ◌∙◌, subst, ap₂, inl, inr, ⊎_elim, arith, w64, to_z, of_z}
use lib.Signed.{lt_z}
use Rattle.std.proofs.lemmas.Int.{ints}
use Rattle.std.proofs.lemmas.Bool.{ltb-true, ltb-false, eqb-true}
use Rattle.algebra.specs.Frac.{◌≤F◌, Same, whole, over, ◌+F◌, ceil}
use Rattle.algebra.proofs.Frac.{trans, same_refl, same_sym, same_trans, same_adds, swapped}
use Rattle.algebra.proofs.Round.{div_ceil_is}
use Rattle.lines.specs.Lines.{Line, Rising, last, axles, value_at, Ahead, Candidate, Summit, IsTandem}
use Rattle.lines.proofs.Values.{value_station}
use Rattle.lines.proofs.Exists.{ahead_self, ahead_trans}
use Rattle.lines.proofs.Tandems.{beaten, most, tandem_some, tandem_none}
use Rattle.loads.specs.declared.others.Other.{Other}
use Rattle.loads.specs.declared.peaks.Peak.{Peak}
use Rattle.loads.specs.Peaks.{sum_of, Ranged, Paired, At, Over, Good, Leads, Better, AxlesAt, Tried, Best}
use Rattle.loads.proofs.Pairing.{times_within}

-- ---- which of two is over the other, from the products that the code compares
less : (x y : ℤ) → lt_z x y ≡ true → (y ≤ℤ x → ⊥) × (x ≤ℤ y)
less x y h = (λ k. grind (arith, ints), grind (arith, ints))

not_less : (x y : ℤ) → lt_z x y ≡ false → y ≤ℤ x
not_less x y h = grind (arith, ints)

level_le : (x y : ℤ) → x ≡ y → x ≤ℤ y
level_le x y h = omega (arith, ints)

both_le : (x y : ℤ) → x ≤ℤ y → y ≤ℤ x → x ≡ y
both_le x y h k = omega (arith, ints)

sum_read : (p : Peak) → Ranged p → to_z w64 (of_z w64 p.sum) ≡ p.sum
sum_read p r = let h : nat_abs p.sum ≤ 160000000000 = omega (arith, r.within, r.few) in omega (arith, ints)

crossed : (p : Peak) → Ranged p → (s : ℤ) (m : ℕ) → s ≡ pos m → m ≤ 200000 → to_z w64 (of_z w64 p.sum) *ℤ to_z w64 (of_z w64 s) ≡ p.sum *ℤ pos m
crossed p r s m e h =
    let b : to_z w64 (of_z w64 s) ≡ pos m = omega (arith, ints) in
    ap₂ (λ (x y : ℤ). x *ℤ y) (sum_read p r) b

crossed_read : (p : Peak) → Ranged p → (m : ℕ) → m ≤ 200000 → to_z w64 (of_z w64 (p.sum *ℤ pos m)) ≡ p.sum *ℤ pos m
crossed_read p r m h =
    let w : nat_abs p.sum ≤ 160000000000 = omega (arith, r.within, r.few) in
    let b : nat_abs (p.sum *ℤ pos m) ≤ 32000000000000000 = omega (arith, times_within p.sum 160000000000 m w) in
    omega (arith, ints)

module _ (p q : Peak) (r : Ranged p) (s : Ranged q) (u v : ℤ) (e : u ≡ pos q.span) (f : v ≡ pos p.span) where
  abbrev A : ℤ
  A = to_z w64 (of_z w64 p.sum) *ℤ to_z w64 (of_z w64 u)

  abbrev B : ℤ
  B = to_z w64 (of_z w64 q.sum) *ℤ to_z w64 (of_z w64 v)

  A_is : A ≡ p.sum *ℤ pos q.span
  A_is = crossed p r u q.span e s.few

  B_is : B ≡ q.sum *ℤ pos p.span
  B_is = crossed q s v p.span f r.few

  A_read : to_z w64 (of_z w64 A) ≡ p.sum *ℤ pos q.span
  A_read = simp A_is (crossed_read p r q.span s.few)

  B_read : to_z w64 (of_z w64 B) ≡ q.sum *ℤ pos p.span
  B_read = simp B_is (crossed_read q s p.span r.few)

  same_bits : of_z w64 A ≡ of_z w64 B → p.sum *ℤ pos q.span ≡ q.sum *ℤ pos p.span
  same_bits h = sym A_read ∙ ap (to_z w64) h ∙ B_read

  pub over_then : lt_z (to_z w64 (of_z w64 B)) (to_z w64 (of_z w64 A)) ≡ true → Over p q
  over_then h =
      let k = less (q.sum *ℤ pos p.span) (p.sum *ℤ pos q.span) (simp (A_read, B_read) at h) in
      record { most = k.1; first = λ l. absurd (k.0 l) }

  module _ (h : lt_z (to_z w64 (of_z w64 B)) (to_z w64 (of_z w64 A)) ≡ false) where
    under : (p.sum *ℤ pos q.span) ≤ℤ (q.sum *ℤ pos p.span)
    under = not_less (q.sum *ℤ pos p.span) (p.sum *ℤ pos q.span) (simp (A_read, B_read) at h)

    level : of_z w64 A ≡ of_z w64 B → (b : Bool) → ltb p.place q.place ≡ b → elim b as (λ (b : Bool). Type 0) [ true ↦ Over p q | false ↦ Over q p ]
    level k true l = record { most = level_le _ _ (sym (same_bits k)); first = λ i. omega (arith, ltb-true _ _ l) }
    level k false l = record { most = level_le _ _ (same_bits k); first = λ i. ltb-false _ _ l }

    pub over_level : of_z w64 A ≡ of_z w64 B → elim (ltb p.place q.place) as (λ (b : Bool). Type 0) [ true ↦ Over p q | false ↦ Over q p ]
    over_level k = level k (ltb p.place q.place) refl

    unlike : (of_z w64 A ≡ of_z w64 B → ⊥) → (b : Bool) → eqb (of_z w64 A) (of_z w64 B) ≡ b → elim b as (λ (b : Bool). Type 0) [ true ↦ Over p q | false ↦ Over q p ]
    unlike k true l = absurd (k (eqb-true _ _ l))
    unlike k false l = record { most = under; first = λ i. absurd (k (ap (of_z w64) (A_is ∙ both_le _ _ under i ∙ sym B_is))) }

    pub over_else : (of_z w64 A ≡ of_z w64 B → ⊥) → elim (eqb (of_z w64 A) (of_z w64 B)) as (λ (b : Bool). Type 0) [ true ↦ Over p q | false ↦ Over q p ]
    over_else k = unlike k (eqb (of_z w64 A) (of_z w64 B)) refl

-- ---- one place
pub placed_at : (d : Line) → Rising d → (i z : ℕ) (p : Peak) → i < d.count → d.place i ≤ last d → z ≤ last d → Paired d i z p → AxlesAt (d.place i) z → p.place ≡ min (d.place i) z → At d p
placed_at d w i z p h a b s (inl u) e =
    let n : d.place i ≡ p.place = omega arith in
    record {
      ranged = s.ranged;
      fits = omega arith;
      same = subst (λ (y : ℕ). Same (sum_of p) (axles d y 1)) n
          (same_trans _ _ _ (subst (λ (y : ℕ). Same (sum_of p) (whole (d.value i) +F value_at d y 1)) u s.same)
          (same_adds _ _ _ _ (same_sym _ _ (value_station d w i h)) (same_refl (value_at d (d.place i + 1200) 1))));
    }
placed_at d w i z p h a b s (inr u) e =
    let n : z ≡ p.place = omega arith in
    let v = subst (λ (y : ℕ). Same (value_at d y 1) (whole (d.value i))) u (value_station d w i h) in
    record {
      ranged = s.ranged;
      fits = omega arith;
      same = subst (λ (y : ℕ). Same (sum_of p) (axles d y 1)) n
          (same_trans _ _ _ s.same (same_trans _ _ _ (swapped (whole (d.value i)) (value_at d z 1)) (same_adds _ _ _ _ (same_refl (value_at d z 1)) (same_sym _ _ v))));
    }

-- ---- two places
cross_le : (p q : Peak) → Ranged p → Ranged q → (q.sum *ℤ pos p.span) ≤ℤ (p.sum *ℤ pos q.span) → sum_of q ≤F sum_of p
cross_le p q r s h =
    let e₁ : max 1 p.span ≡ p.span = omega (arith, r.some) in
    let e₂ : max 1 q.span ≡ q.span = omega (arith, s.some) in
    record { cross = rw (e₁, e₂) h }

le_cross : (p q : Peak) → Ranged p → Ranged q → sum_of q ≤F sum_of p → (q.sum *ℤ pos p.span) ≤ℤ (p.sum *ℤ pos q.span)
le_cross p q r s h =
    let e₁ : max 1 p.span ≡ p.span = omega (arith, r.some) in
    let e₂ : max 1 q.span ≡ q.span = omega (arith, s.some) in
    rw (e₁, e₂) at h.cross

over_ahead : (d : Line) (p q : Peak) → At d p → At d q → Over p q → Ahead d p.place q.place
over_ahead d p q a b o = record {
  most = trans b.same.1 (trans (cross_le p q a.ranged b.ranged o.most) a.same.0);
  first = λ h. o.first (le_cross q p b.ranged a.ranged (trans a.same.0 (trans h b.same.1)));
}

leads_at : (d : Line) (p : Peak) (o : Other) (x : Option Other) (y : ℕ) → x ≡ Some o → p.place ≡ min y o.place → (r : Peak) → Ahead d r.place p.place → (z : Other) → x ≡ Some z → Leads d (Some r) (min y z.place)
leads_at d p o x y e f r a z g =
    let h : o ≡ z = cc in
    subst (λ (c : ℕ). Ahead d r.place c) (f ∙ ap (λ (q : Other). min y q.place) h) a

-- the tandem with its other axle at `o` is tried, whose sum is `new`
pub tried_some : (d : Line) (best : Option Peak) (y : ℕ) (x : Option Other) (o : Other) (new r : Peak) → x ≡ Some o → Good d best → At d new → new.place ≡ min y o.place
    → MatchOption best (r ≡ new) (λ old. Better old new r) → Tried d best y x (Some r)
tried_some d None y x o new r e g a f h = record {
  good = subst (At d) (sym h) a;
  keeps = λ c l. absurd l;
  leads = leads_at d new o x y e f r (subst (λ (q : Peak). Ahead d q.place new.place) (sym h) (ahead_self d new.place));
}
tried_some d (Some p) y x o new r e g a f (inl h) = record {
  good = subst (At d) (sym h.0) a;
  keeps = λ c l. subst (λ (q : Peak). Ahead d q.place c) (sym h.0) (ahead_trans d new.place p.place c (over_ahead d new p a g h.1) l);
  leads = leads_at d new o x y e f r (subst (λ (q : Peak). Ahead d q.place new.place) (sym h.0) (ahead_self d new.place));
}
tried_some d (Some p) y x o new r e g a f (inr h) = record {
  good = subst (At d) (sym h.0) g;
  keeps = λ c l. subst (λ (q : Peak). Ahead d q.place c) (sym h.0) l;
  leads = leads_at d new o x y e f r (subst (λ (q : Peak). Ahead d q.place new.place) (sym h.0) (over_ahead d p new g a h.1));
}

-- ---- all places
module _ (d : Line) (w : Rising d) where
  all_led : (o : Option Peak) → ((j : ℕ) → j < d.count → d.place j + 1200 ≤ last d → Leads d o (d.place j)) → ((j : ℕ) → j < d.count → 1200 ≤ d.place j → Leads d o (d.place j - 1200))
      → (c : ℕ) → Candidate d c → Leads d o c
  all_led o f g c k =
      let j = k.axle.0 in
      ⊎_elim
      (λ e. subst (λ (z : ℕ). Leads d o z) (sym e) (f j k.axle.1 (omega (arith, k.fits))))
      (λ e. let q : d.place j - 1200 ≡ c = omega arith in subst (λ (z : ℕ). Leads d o z) q (g j k.axle.1 (omega arith)))
      k.axle.2

  pub best_of : (o : Option Peak) → Good d o → ((j : ℕ) → j < d.count → d.place j + 1200 ≤ last d → Leads d o (d.place j)) → ((j : ℕ) → j < d.count → 1200 ≤ d.place j → Leads d o (d.place j - 1200)) → Best d o
  best_of (Some p) a f g = (a, record { fits = a.fits; ahead = all_led (Some p) f g })
  best_of None a f g = λ x y S. let r = beaten d w x y S in all_led None f g r.0 r.1.candidate

  -- ---- rounded up
  rounded_up : (p : Peak) (n t : ℕ) → p.sum ≡ pos n → 0 < n → t ≡ ceil (10000 * n) p.span → At d p → Summit d p.place → IsTandem d t (Some p.place)
  rounded_up p n t e o r a s =
      tandem_some d w p.place s n p.span a.ranged.some (subst (λ (z : ℤ). Same (over z p.span) (axles d p.place 1)) e a.same) t o r

  none_over : (p : Peak) → p.sum ≤ℤ pos 0 → sum_of p ≤F whole (pos 0)
  none_over p h = record { cross = omega (arith, ints) }

  none_positive : (p : Peak) → p.sum ≤ℤ pos 0 → At d p → Summit d p.place → IsTandem d 0 None
  none_positive p h a s = tandem_none d (λ x y S. trans (most d w p.place s x y S) (trans a.same.1 (none_over p h)))

-- ---- as the code has the numbers
natural : (z : ℤ) → lt_z (pos 0) z ≡ true → (z ≡ pos (nat_abs z)) × (0 < nat_abs z)
natural (pos n) h = (refl, omega (arith, ints))
natural (negsuc n) h = absurd (omega (arith, ints))

module _ (d : Line) (w : Rising d) (p : Peak) (b : At d p × Summit d p.place) where
  pub stands : (t n s : ℕ) → lt_z (pos 0) (to_z w64 (of_z w64 p.sum)) ≡ true → n ≡ nat_abs (to_z w64 (of_z w64 p.sum)) → s ≡ p.span
      → t ≡ (10000 * n) / s + min 1 ((10000 * n) % s) → IsTandem d t (Some p.place)
  stands t n s h f g e =
      let r = sum_read p b.0.ranged in
      let k = natural p.sum (simp r at h) in
      let m : n ≡ nat_abs p.sum = f ∙ ap nat_abs r in
      let u = b.0.ranged.some in
      rounded_up d w p (nat_abs p.sum) t k.0 k.1 (e ∙ div_ceil_is (10000 * n) s (omega arith) ∙ ap₂ (λ (i j : ℕ). ceil (10000 * i) j) m g) b.0 b.1

  pub absent : lt_z (pos 0) (to_z w64 (of_z w64 p.sum)) ≡ false → IsTandem d 0 None
  absent h = none_positive d w p (not_less (pos 0) p.sum (simp (sum_read p b.0.ranged) at h)) b.0 b.1
