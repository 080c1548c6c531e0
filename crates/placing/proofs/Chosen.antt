-- The chosen placement, part by part from the left, and that its owners are unique.
use Rattle.std.proofs.Common.{◌≡◌, ℕ, zero, suc, ◌+◌, ◌<◌, ◌≤◌, true, false, List, [], ◌∷◌, ◌++◌, replicate, Some, sym, refl, ◌∙◌, subst, inl, inr, ⊎_elim, arith}
use Rattle.std.proofs.lemmas.Bool.{cases_lt, cases_order, both_ways}
use Rattle.model.specs.Owners.{number_of}
use Rattle.model.specs.declared.owners.Owner.{Owner}
use Rattle.placing.specs.Kind.{Kind, Laws}
use Rattle.placing.specs.Placing.{Road, width, owners, worth, Placement, Greatest, Best, Bounded, Before, Chosen}
use Rattle.placing.specs.Steps.{Taken, Leads}
use Rattle.placing.proofs.Owners.{same_owner, number_low, width_pos}
use Rattle.placing.proofs.Steps.{put, taken, irreflexive}

-- ---- the order of owners

-- behind equal fronts
before_behind : (n k : ℕ) (xs ys : List ℕ) → Before xs ys → Before (replicate n k ++ xs) (replicate n k ++ ys)
before_behind zero k xs ys b = b
before_behind (suc n) k xs ys b = inr (refl, before_behind n k xs ys b)

-- by the first slice
before_at : (n l k q : ℕ) (xs ys : List ℕ) → 1 ≤ n → 1 ≤ l → k < q → Before (replicate n k ++ xs) (replicate l q ++ ys)
before_at zero l k q xs ys hn hl h = absurd (omega arith)
before_at (suc n) zero k q xs ys hn hl h = absurd (omega arith)
before_at (suc n) (suc l) k q xs ys hn hl h = inl h

before_both : (xs ys : List ℕ) → Before xs ys → Before ys xs → xs ≡ ys
before_both [] [] a b = refl
before_both [] (y ∷ ys) a b = absurd b
before_both (x ∷ xs) [] a b = absurd a
before_both (x ∷ xs) (y ∷ ys) a b =
    ⊎_elim (λ l. ⊎_elim (λ r. absurd (omega arith)) (λ r. absurd (omega arith)) b) (λ e. ⊎_elim (λ r. absurd (omega arith)) (λ r. let t = before_both xs ys e.1 r.1 in let h = e.0 in cc) b) a

-- ---- the first owner

module _ {W : Type 0} (K : Kind W) (L : Laws K) (R : Road W) (j m o : ℕ) where
  -- no placement of the worth `best` begins with an owner whose number is below b
  abbrev pub Passed : W → ℕ → Type 0
  Passed best b = (q : Owner) (qs : List Owner) → number_of q < b → Placement R j m o (q ∷ qs) → worth K R j (q ∷ qs) ≡ best → ⊥

  pub passed_more : (best : W) (p : Owner) (b : ℕ) → number_of p ≡ b → Passed best b → ((qs : List Owner) → Placement R j m o (p ∷ qs) → worth K R j (p ∷ qs) ≡ best → ⊥) → Passed best (b + 1)
  passed_more best p b n h here q qs lt at e =
      ⊎_elim (λ low. h q qs low at e) (λ high. let s : q ≡ p = same_owner q p (omega arith) in here qs (subst (λ (x : Owner). Placement R j m o (x ∷ qs)) s at) (subst (λ (x : Owner). worth K R j (x ∷ qs) ≡ best) s e)) (cases_lt (number_of q) b)

  pub lower : (best w : W) (p : Owner) → Greatest K (λ ps. Placement R j m o (p ∷ ps)) (λ ps. worth K R j (p ∷ ps)) (Some w) → K.below w best ≡ true → (qs : List Owner) → Placement R j m o (p ∷ qs) → worth K R j (p ∷ qs) ≡ best → ⊥
  lower best w p b t qs h e = both_ways (K.below w best) (rw e at (b.1 qs h)) t

  pub leads : (best w : W) (p : Owner) (b : ℕ) → number_of p ≡ b → Best K R j m o (Some best) → Greatest K (λ ps. Placement R j m o (p ∷ ps)) (λ ps. worth K R j (p ∷ ps)) (Some w) → K.below w best ≡ false → Passed best b → Leads K R j m o p
  leads best w p b n all g t h =
      let s : worth K R j (p ∷ g.0.0) ≡ best = g.0.2 ∙ L.only w best t (rw g.0.2 at (all.1 (p ∷ g.0.0) g.0.1)) in
      record { rest = g.0.0; placed = g.0.1; greatest = λ qs q. rw s (all.1 qs q); first = λ q qs lt at e. h q qs (omega arith) at (e ∙ s) }

  -- some owner begins a placement of the best worth
  pub not_all_passed : (best : W) → j < R.slices → Best K R j m o (Some best) → Passed best 5 → ⊥
  not_all_passed best inside b h = go b.0.0 b.0.1 b.0.2
    where
      go : (ps : List Owner) → Placement R j m o ps → worth K R j ps ≡ best → ⊥
      go [] p e = omega (arith, p.covers)
      go (q ∷ ps) p e = h q ps (number_low q) p e

  -- ---- one part more

  -- the chosen placement, from its first owner and what is chosen after it
  pub chosen_step : Bounded K R → (k : Owner) (m' o' : ℕ) (ts : List Owner) → Leads K R j m o k → Taken k m o m' o' → Chosen K R (j + width R.lane k) m' o' ts → Chosen K R j m o (k ∷ ts)
  chosen_step u k m' o' ts l t c = record { placed = put R k m o m' o' t j ts c.placed; greatest = most; first = go }
    where
      rest : Placement R (j + width R.lane k) m' o' l.rest
      rest = taken R k m o m' o' t j l.rest l.placed

      above : K.below (worth K R j (k ∷ ts)) (worth K R j (k ∷ l.rest)) ≡ false
      above = L.keeps_left (R.part k j) (worth K R (j + width R.lane k) ts) (worth K R (j + width R.lane k) l.rest) ∙ c.greatest l.rest rest

      most : (qs : List Owner) → Placement R j m o qs → K.below (worth K R j (k ∷ ts)) (worth K R j qs) ≡ false
      most qs p = L.chain (worth K R j (k ∷ ts)) (worth K R j (k ∷ l.rest)) (worth K R j qs) above (l.greatest qs p)

      level : worth K R j (k ∷ ts) ≡ worth K R j (k ∷ l.rest)
      level = L.only (worth K R j (k ∷ ts)) (worth K R j (k ∷ l.rest)) above (l.greatest (k ∷ ts) (put R k m o m' o' t j ts c.placed))

      cancel : (x y : W) → K.sum (R.part k j) x ≡ K.sum (R.part k j) y → x ≡ y
      cancel x y e =
          L.only x y (sym (L.keeps_left (R.part k j) x y) ∙ rw e (irreflexive K L (K.sum (R.part k j) y))) (sym (L.keeps_left (R.part k j) y x) ∙ rw e (irreflexive K L (K.sum (R.part k j) y)))

      go : (qs : List Owner) → Placement R j m o qs → worth K R j qs ≡ worth K R j (k ∷ ts) → Before (owners R.lane (k ∷ ts)) (owners R.lane qs)
      go [] p e = absurd (omega (arith, p.covers, l.placed.covers, width_pos R.lane k u.wide))
      go (q ∷ qs) p e = ⊎_elim same (⊎_elim early late) (cases_order (number_of q) (number_of k))
        where
          same : number_of q ≡ number_of k → Before (owners R.lane (k ∷ ts)) (owners R.lane (q ∷ qs))
          same n =
              let s = same_owner q k n in
              let p' : Placement R j m o (k ∷ qs) = subst (λ (x : Owner). Placement R j m o (x ∷ qs)) s p in
              let e' : worth K R j (k ∷ qs) ≡ worth K R j (k ∷ ts) = subst (λ (x : Owner). worth K R j (x ∷ qs) ≡ worth K R j (k ∷ ts)) s e in
              let b = c.first qs (taken R k m o m' o' t j qs p') (cancel _ _ e') in
              subst (λ (x : Owner). Before (owners R.lane (k ∷ ts)) (owners R.lane (x ∷ qs))) (sym s) (before_behind (width R.lane k) (number_of k) _ _ b)

          early : number_of q < number_of k → Before (owners R.lane (k ∷ ts)) (owners R.lane (q ∷ qs))
          early h = absurd (l.first q qs h p (e ∙ level))

          late : number_of k < number_of q → Before (owners R.lane (k ∷ ts)) (owners R.lane (q ∷ qs))
          late h = before_at (width R.lane k) (width R.lane q) (number_of k) (number_of q) _ _ (width_pos R.lane k u.wide) (width_pos R.lane q u.wide) h

module _ {W : Type 0} (K : Kind W) (L : Laws K) (R : Road W) (j m o : ℕ) where
  -- what is chosen has the best worth
  pub chosen_worth : (ps : List Owner) (w : W) → Chosen K R j m o ps → Best K R j m o (Some w) → worth K R j ps ≡ w
  chosen_worth ps w c b = L.only (worth K R j ps) w (rw b.0.2 at (c.greatest b.0.0 b.0.1)) (b.1 ps c.placed)

  -- the tie rule leaves one list of owners
  pub chosen_once : (ps qs : List Owner) → Chosen K R j m o ps → Chosen K R j m o qs → owners R.lane ps ≡ owners R.lane qs
  chosen_once ps qs c d =
      let e : worth K R j ps ≡ worth K R j qs = L.only (worth K R j ps) (worth K R j qs) (c.greatest qs d.placed) (d.greatest ps c.placed) in
      before_both _ _ (c.first qs d.placed (sym e)) (d.first ps c.placed e)
