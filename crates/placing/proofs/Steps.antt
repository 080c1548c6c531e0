-- One part in front of a placement, and the greatest of two lots.
use Rattle.std.proofs.Common.{◌≡◌, ℕ, zero, suc, ◌+◌, ◌-◌, ◌*◌, ◌/◌, ◌%◌, ◌^◌, ◌<◌, ◌≤◌, Bool, true, false, cond, ◌⊎◌, List, [], ◌∷◌, length, get_or, set, Some, None, Option, sym, refl, ap, ◌∙◌, subst, inl, inr, ⊎_elim, mul-le-mul_right, add-mul, arith}
use lib.Count.{ones}
use Rattle.std.proofs.lemmas.List.{get_or_read, get_or-set_same, get_or-set_other}
use Rattle.std.proofs.lemmas.Bool.{cases_lt, cases_eq}
use Rattle.model.specs.Owners.{number_of}
use Rattle.model.specs.declared.owners.Owner.{Owner}
use Rattle.model.specs.declared.owners.Owner.TheVariants.{Lane1, Lane2, Lane3, Other}
use Rattle.placing.specs.Kind.{Kind, Laws}
use Rattle.placing.specs.Placing.{Road, width, span, times, hit, worth, Placement, Greatest, Best, Filled, Bounded}
use Rattle.placing.specs.Steps.{Taken, better}
use Rattle.placing.proofs.Sets.{digits}
use Rattle.placing.proofs.Owners.{same_owner, number_low, width_pos, lane_slices}

module _ {W : Type 0} (R : Road W) (p : Owner) (m o m' o' : ℕ) (t : Taken p m o m' o') where
  pub put : (j : ℕ) (ps : List Owner) → Placement R (j + width R.lane p) m' o' ps → Placement R j m o (p ∷ ps)
  put j ps h = record {
    covers = omega arith;
    holds = record { first = omega arith; second = omega arith; third = omega arith; others = omega arith };
  }

  pub taken : (j : ℕ) (ps : List Owner) → Placement R j m o (p ∷ ps) → Placement R (j + width R.lane p) m' o' ps
  taken j ps h = record {
    covers = omega arith;
    holds = record { first = omega arith; second = omega arith; third = omega arith; others = omega arith };
  }

-- ---- entries

-- what the code reads as the entry after a part of v slices
pub next : {W : Type 0} (K : Kind W) (R : Road W) (bs : List (Option W)) (r : Option W) (j : ℕ) (p : Owner) (v m o m' o' : ℕ) → Bounded K R → Filled K R (24 * j + 24) bs → 24 * (R.slices + 1) ≤ length bs
    → Taken p m o m' o' → m' < 8 → o' < 3 → v ≡ width R.lane p → j + v ≤ R.slices → r ≡ get_or bs (24 * (j + v) + 3 * m' + o') r
    → Greatest K (λ ps. Placement R j m o (p ∷ ps)) (worth K R (j + width R.lane p)) r
next {W} K R bs r j p v m o m' o' u f long t lm lo e fits is =
    let pos = width_pos R.lane p u.wide in
    let read = get_or_read bs (24 * (j + v) + 3 * m' + o') r (omega arith) is None in
    let P : ℕ → Type 0 = λ x. Best K R (j + x) m' o' r in
    go r (subst P e (subst (Best K R (j + v) m' o') (sym read) (f (j + v) m' o' fits lm lo (omega arith))))
  where
    go : (r : Option W) → Best K R (j + width R.lane p) m' o' r → Greatest K (λ ps. Placement R j m o (p ∷ ps)) (worth K R (j + width R.lane p)) r
    go None b = λ ps h. b ps (taken R p m o m' o' t j ps h)
    go (Some w) b = ((b.0.0, put R p m o m' o' t j b.0.0 b.0.1, b.0.2), λ ps h. b.1 ps (taken R p m o m' o' t j ps h))

-- what the code reads as an entry
pub entry_read : {W : Type 0} (K : Kind W) (R : Road W) (bs : List (Option W)) (r : Option W) (w : W) (i j m o : ℕ) → Filled K R i bs → 24 * (R.slices + 1) ≤ length bs
    → j ≤ R.slices → m < 8 → o < 3 → i ≤ 24 * j + 3 * m + o → r ≡ get_or bs (24 * j + 3 * m + o) r → r ≡ Some w → Best K R j m o (Some w)
entry_read K R bs r w i j m o f long lj lm lo h is e =
    let read = get_or_read bs (24 * j + 3 * m + o) r (omega arith) is None in
    subst (Best K R j m o) (sym read ∙ e) (f j m o lj lm lo h)

-- one entry more, at n
pub one_entry : {W : Type 0} (K : Kind W) (R : Road W) (bs : List (Option W)) (n i : ℕ) (r : Option W) → n < length bs → i ≡ n + 1 → Filled K R i bs
    → Best K R (n / 24) (n % 24 / 3) (n % 3) r → Filled K R n (set bs n r)
one_entry {W} K R bs n i r low e f b j m o lj lm lo h = ⊎_elim same other (cases_eq (24 * j + 3 * m + o) n)
  where
    same : 24 * j + 3 * m + o ≡ n → Best K R j m o (get_or (set bs n r) (24 * j + 3 * m + o) None)
    same x =
        let ej : n / 24 ≡ j = omega arith in
        let em : n % 24 / 3 ≡ m = omega arith in
        let eo : n % 3 ≡ o = omega arith in
        rw (x, get_or-set_same bs n r None low) (rw (ej, em, eo) at b)

    other : (24 * j + 3 * m + o ≡ n → ⊥) → Best K R j m o (get_or (set bs n r) (24 * j + 3 * m + o) None)
    other ne = rw (get_or-set_other bs n (24 * j + 3 * m + o) r None ne) (f j m o lj lm lo (omega arith))

-- ---- room

-- the lanes of parts take their slices
pub lanes_slices : (L : ℕ) (ps : List Owner) → (times Lane1 ps + times Lane2 ps + times Lane3 ps + times Other ps) * L ≤ span L ps
lanes_slices L [] = omega arith
lanes_slices L (p ∷ ps) =
    let h = hit p Lane1 + hit p Lane2 + hit p Lane3 + hit p Other in
    let t = times Lane1 ps + times Lane2 ps + times Lane3 ps + times Other ps in
    let e : times Lane1 (p ∷ ps) + times Lane2 (p ∷ ps) + times Lane3 (p ∷ ps) + times Other (p ∷ ps) ≡ h + t = omega arith in
    rw (e, add-mul h t L) (omega (arith, lane_slices L p, lanes_slices L ps))

-- where the lanes still to place need more slices than are left, there is no placement
pub too_few : {W : Type 0} (R : Road W) (j m o still lane : ℕ) → m < 8 → still ≡ o + ones m → lane ≡ R.lane → R.slices - j < still * lane → (ps : List Owner) → Placement R j m o ps → ⊥
too_few R j m o still lane low e f h ps p =
    let d = digits m low in
    let t : still ≡ times Lane1 ps + times Lane2 ps + times Lane3 ps + times Other ps = omega arith in
    omega (arith, rw (t, f) at h, lanes_slices R.lane ps)

-- ---- the greatest

-- the parts begin with an owner whose number is below b
abbrev pub Heads : ℕ → List Owner → Type 0
Heads b [] = ⊥
Heads b (p ∷ ps) = number_of p < b

module _ {W : Type 0} (K : Kind W) (L : Laws K) where
  pub irreflexive : (x : W) → K.below x x ≡ false
  irreflexive x = go (K.below x x) refl
    where
      go : (b : Bool) → K.below x x ≡ b → K.below x x ≡ false
      go true e = L.one_way x x e
      go false e = e

  -- the greatest of two lots together, the second reached through e
  pub greatest_of_two : {X Y : Type 0} (P S : X → Type 0) (Q : Y → Type 0) (e : Y → X) (f : X → W) → ((x : X) → S x → P x ⊎ ((y : Y) × Q y × (x ≡ e y)))
      → ((x : X) → P x → S x) → ((y : Y) → Q y → S (e y)) → (a b : Option W) → Greatest K P f a → Greatest K Q (λ y. f (e y)) b → Greatest K S f (better K a b)
  greatest_of_two P S Q e f split left right None None p q = λ x s. ⊎_elim (p x) (λ h. q h.0 h.1) (split x s)
  greatest_of_two P S Q e f split left right None (Some y) p q =
      ((e q.0.0, right _ q.0.1, q.0.2), λ x s. ⊎_elim (λ h. absurd (p x h)) (λ h. rw h.2 (q.1 h.0 h.1)) (split x s))
  greatest_of_two P S Q e f split left right (Some x) None p q =
      ((p.0.0, left _ p.0.1, p.0.2), λ z s. ⊎_elim (p.1 z) (λ h. absurd (q h.0 h.1)) (split z s))
  greatest_of_two {X} P S Q e f split left right (Some x) (Some y) p q = go (K.below x y) refl
    where
      go : (t : Bool) → K.below x y ≡ t → ((z : X) × S z × (f z ≡ cond t y x)) × ((z : X) → S z → K.below (cond t y x) (f z) ≡ false)
      go true t = ((e q.0.0, right _ q.0.1, q.0.2), λ z s. ⊎_elim (λ h. L.chain y x (f z) (L.one_way x y t) (p.1 z h)) (λ h. rw h.2 (q.1 h.0 h.1)) (split z s))
      go false t = ((p.0.0, left _ p.0.1, p.0.2), λ z s. ⊎_elim (p.1 z) (λ h. L.chain x y (f z) t (rw h.2 (q.1 h.0 h.1))) (split z s))

  module _ (R : Road W) where
    -- a placement weighs no more than its slices
    pub weighs : Bounded K R → (j m o : ℕ) (ps : List Owner) → Placement R j m o ps → K.weight (worth K R j ps) ≤ (R.slices - j) * 2 ^ 54
    weighs u j m o ps p = let h = go j ps (omega arith) in omega arith
      where
        go : (j : ℕ) (ps : List Owner) → j + span R.lane ps ≤ R.slices → K.weight (worth K R j ps) ≤ span R.lane ps * 2 ^ 54
        go j [] h = omega (arith, L.light)
        go j (q ∷ qs) h = omega (arith, L.adds (R.part q j) (worth K R (j + width R.lane q) qs), u.light q j (omega arith), go (j + width R.lane q) qs (omega arith))

    -- so what a part and what follows it are worth can be added
    pub fits : Bounded K R → (j : ℕ) (p : Owner) (m o : ℕ) (ps : List Owner) (a w : W) → Placement R j m o (p ∷ ps) → a ≡ R.part p j → worth K R (j + width R.lane p) ps ≡ w → K.weight a + K.weight w < 2 ^ 64
    fits u j p m o ps a w h e f = let b = weighs u j m o (p ∷ ps) h in rw (e, ← f) (omega (arith, L.adds (R.part p j) (worth K R (j + width R.lane p) ps), u.few))

    -- the best that begins with p, from the best of what follows it
    pub begins : (j : ℕ) (p : Owner) (m o : ℕ) (a w s : W) → a ≡ R.part p j → s ≡ K.sum a w → Greatest K (λ ps. Placement R j m o (p ∷ ps)) (worth K R (j + width R.lane p)) (Some w)
        → Greatest K (λ ps. Placement R j m o (p ∷ ps)) (λ ps. worth K R j (p ∷ ps)) (Some s)
    begins j p m o a w s e f b =
        rw (f, e) ((b.0.0, b.0.1, ap (K.sum (R.part p j)) b.0.2), λ ps h. L.keeps_left (R.part p j) w (worth K R (j + width R.lane p) ps) ∙ b.1 ps h)

    -- at the end nothing is left to place, and nothing is worth zero
    pub at_end : Bounded K R → (j m o still lane : ℕ) (z : W) → m < 8 → still ≡ o + ones m → lane ≡ R.lane → j ≡ R.slices → still * lane ≤ R.slices - j → z ≡ K.zero → Best K R j m o (Some z)
    at_end u j m o still lane z low e f h few n =
        let d = digits m low in
        let s : still ≡ 0 = none still few in
        (([], record { covers = omega arith; holds = record { first = omega arith; second = omega arith; third = omega arith; others = omega arith } }, sym n), only)
      where
        none : (x : ℕ) → x * lane ≤ R.slices - j → x ≡ 0
        none zero g = refl
        none (suc x) g = let y : 1 ≤ suc x = omega arith in absurd (omega (arith, mul-le-mul_right lane y, u.wide))

        only : (ps : List Owner) → Placement R j m o ps → K.below z (worth K R j ps) ≡ false
        only [] p = rw n (irreflexive K.zero)
        only (q ∷ ps) p = absurd (omega (arith, width_pos R.lane q u.wide, p.covers))

    module _ (j m o : ℕ) where
      -- one more owner to begin with
      pub one_more : (p : Owner) (b : ℕ) (a c : Option W) → number_of p ≡ b → Greatest K (λ ps. Placement R j m o ps × Heads b ps) (worth K R j) a
          → Greatest K (λ ps. Placement R j m o (p ∷ ps)) (λ ps. worth K R j (p ∷ ps)) c → Greatest K (λ ps. Placement R j m o ps × Heads (b + 1) ps) (worth K R j) (better K a c)
      one_more p b a c e =
          greatest_of_two (λ ps. Placement R j m o ps × Heads b ps) (λ ps. Placement R j m o ps × Heads (b + 1) ps) (λ ps. Placement R j m o (p ∷ ps)) (λ ps. p ∷ ps) (worth K R j)
          split (λ ps s. (s.0, wider ps s.1)) (λ ps h. (h, omega arith)) a c
        where
          wider : (ps : List Owner) → Heads b ps → Heads (b + 1) ps
          wider [] h = h
          wider (q ∷ ps) h = omega arith

          split : (ps : List Owner) → Placement R j m o ps × Heads (b + 1) ps → (Placement R j m o ps × Heads b ps) ⊎ ((qs : List Owner) × Placement R j m o (p ∷ qs) × (ps ≡ p ∷ qs))
          split [] s = absurd s.1
          split (q ∷ ps) s = ⊎_elim (λ h. inl (s.0, h)) (λ h. let f : q ∷ ps ≡ p ∷ ps = ap (λ x. x ∷ ps) (same_owner q p (omega arith)) in inr (ps, (rw f at s.0), f)) (cases_lt (number_of q) b)

      -- all owners, short of the end
      pub all_heads : (r : Option W) → j < R.slices → Greatest K (λ ps. Placement R j m o ps × Heads 5 ps) (worth K R j) r → Best K R j m o r
      all_heads r inside = go r
        where
          five : (ps : List Owner) → Placement R j m o ps → Placement R j m o ps × Heads 5 ps
          five [] p = absurd (omega (arith, p.covers))
          five (q ∷ ps) p = (p, number_low q)

          go : (r : Option W) → Greatest K (λ ps. Placement R j m o ps × Heads 5 ps) (worth K R j) r → Best K R j m o r
          go None b = λ ps p. b ps (five ps p)
          go (Some w) b = ((b.0.0, b.0.1.0, b.0.2), λ ps p. b.1 ps (five ps p))
