-- What changes the card: a duty is followed from its reduction on.
use Rattle.std.proofs.Common.{◌≡◌, ℕ, ◌+◌, ◌<◌, ◌≤◌, Bool, true, not, ◌&&◌, ltb, ◌⊎◌, List, [], ◌∷◌, Some, None, Option, sym, refl, ap, ◌∙◌, subst, ap₂, inl, inr, ⊎_elim, arith}
use Rattle.std.proofs.lemmas.Bool.{eq-eqb, ne_eqb}
use Rattle.model.specs.declared.weights.Factors.{Factors}
use Rattle.card.specs.Bounds.{in_bounds, some_reduced}
use Rattle.card.specs.Steps.{unless, cause, writes, if_taken, step, card_after, duty_open, is_open}
use Rattle.card.specs.declared.calls.Call.{Call}
use Rattle.card.specs.declared.calls.Call.TheVariants.{Kerbs as SetKerbs, Factors as SetFactors, Reduce, Posted, Withdraw, Figure, Drawing}
use Rattle.card.specs.declared.entries.Card.{Card}
use Rattle.card.specs.declared.fault.JobFault.{JobFault}
use Rattle.card.specs.declared.fault.JobFault.TheVariants.{Factor, DutyOpen, NotOpen}
use Rattle.doubts.specs.Changes.{WhileOpen, ChangesStand}

same_either_way : (o : Option JobFault) (c : Card) → if_taken o c c ≡ c
same_either_way None c = refl
same_either_way (Some e) c = refl

refused : (c : Card) (k : Call) (e : JobFault) → cause c k ≡ Some e → step c k ≡ c
refused c k e h = ap (λ o. if_taken o (writes c k) c) h

taken : (c : Card) (k : Call) → cause c k ≡ None → step c k ≡ writes c k
taken c k h = ap (λ o. if_taken o (writes c k) c) h

-- what holds whether a call is taken or refused holds after it
either_way : (P : Card → Type 0) (o : Option JobFault) (w c : Card) → P w → P c → P (if_taken o w c)
either_way P None w c p q = p
either_way P (Some e) w c p q = q

-- ---- a duty of job n with serial s, from a reduction from the factors before to the factors now
module _ (n s : ℕ) (before now : Factors) (some : 0 < s) where
  -- it is open
  record Held (d : Card) : Type 0 where
    number : d.number ≡ n
    serial : d.serial ≡ s
    count : d.count ≡ s
    factors : d.factors ≡ now
    earlier : d.earlier ≡ before

  -- it is not, and never will be again
  record Gone (d : Card) : Type 0 where
    other : d.serial ≡ s → ⊥
    passed : s ≤ d.count

  abbrev Followed : Card → Type 0
  Followed d = Held d ⊎ Gone d

  is_held : (d : Card) → Held d → duty_open d ≡ true
  is_held d h = ap not (ne_eqb d.serial 0 (λ e. omega (arith, h.serial)))

  is_this : (d : Card) → Held d → is_open d n s ≡ true
  is_this d h =
      ap₂ (λ (a b : Bool). a && b) (is_held d h)
      (ap₂ (λ (a b : Bool). a && b) (eq-eqb n d.number (sym h.number)) (eq-eqb s d.serial (sym h.serial)))

  held_next : (d : Card) (k : Call) → Held d → Followed (step d k)
  held_next d (SetKerbs k) h = either_way Followed (cause d (SetKerbs k)) _ d (inl (record { number = h.number; serial = h.serial; count = h.count; factors = h.factors; earlier = h.earlier })) (inl h)
  held_next d (SetFactors f) h = subst Followed (sym (refused d (SetFactors f) DutyOpen (ap (λ b. unless (not b) DutyOpen (unless (in_bounds 80 100 f) Factor None)) (is_held d h)))) (inl h)
  held_next d (Reduce f) h = subst Followed (sym (refused d (Reduce f) DutyOpen (ap (λ b. unless (not b && ltb d.count 65535) DutyOpen (unless (in_bounds 40 40 f && some_reduced f) Factor None)) (is_held d h)))) (inl h)
  held_next d (Posted m t) h = either_way Followed (cause d (Posted m t)) _ d (inr (record { other = λ e. omega arith; passed = omega (arith, h.count) })) (inl h)
  held_next d (Withdraw m t) h = either_way Followed (cause d (Withdraw m t)) _ d (inr (record { other = λ e. omega arith; passed = omega (arith, h.count) })) (inl h)
  held_next d (Figure kind l) h = either_way Followed (cause d (Figure kind l)) d d (inl h) (inl h)
  held_next d (Drawing kind l) h = either_way Followed (cause d (Drawing kind l)) d d (inl h) (inl h)

  gone_next : (d : Card) (k : Call) → Gone d → Followed (step d k)
  gone_next d (SetKerbs k) g = either_way Followed (cause d (SetKerbs k)) _ d (inr (record { other = g.other; passed = g.passed })) (inr g)
  gone_next d (SetFactors f) g = either_way Followed (cause d (SetFactors f)) _ d (inr (record { other = g.other; passed = g.passed })) (inr g)
  gone_next d (Reduce f) g = either_way Followed (cause d (Reduce f)) _ d (inr (record { other = λ e. omega (arith, g.passed); passed = omega (arith, g.passed) })) (inr g)
  gone_next d (Posted m t) g = either_way Followed (cause d (Posted m t)) _ d (inr (record { other = λ e. omega arith; passed = g.passed })) (inr g)
  gone_next d (Withdraw m t) g = either_way Followed (cause d (Withdraw m t)) _ d (inr (record { other = λ e. omega arith; passed = g.passed })) (inr g)
  gone_next d (Figure kind l) g = either_way Followed (cause d (Figure kind l)) d d (inr g) (inr g)
  gone_next d (Drawing kind l) g = either_way Followed (cause d (Drawing kind l)) d d (inr g) (inr g)

  follow : (d : Card) (calls : List Call) → Followed d → Followed (card_after d calls)
  follow d [] f = f
  follow d (k ∷ ks) f = follow (step d k) ks (⊎_elim (held_next d k) (gone_next d k) f)

  still_held : (d : Card) → Followed d → d.serial ≡ s → Held d
  still_held d f e = ⊎_elim (λ (h : Held d). h) (λ (g : Gone d). absurd (g.other e)) f

  withdraw_taken : (d : Card) → Held d → cause d (Withdraw n s) ≡ None
  withdraw_taken d h = ap (λ b. unless b NotOpen None) (is_this d h)

  post_taken : (d : Card) → Held d → cause d (Posted n s) ≡ None
  post_taken d h = ap (λ b. unless b NotOpen None) (is_this d h)

-- ---- the reduction itself
module _ (c : Card) (f : Factors) (t : cause c (Reduce f) ≡ None) where
  serial_some : 0 < c.count + 1
  serial_some = omega arith

  abbrev HeldBy : Card → Type 0
  HeldBy = Held c.number (c.count + 1) c.factors f serial_some

  first_held : HeldBy (step c (Reduce f))
  first_held = subst HeldBy (sym (taken c (Reduce f) t)) (record { number = refl; serial = refl; count = refl; factors = refl; earlier = refl })

  open_still : (d : Card) → HeldBy d → WhileOpen c f d
  open_still d h =
      let w = withdraw_taken _ _ _ _ serial_some d h in
      let p = post_taken _ _ _ _ serial_some d h in
      record {
        reduced = h.factors;
        withdraw_taken = w;
        post_taken = p;
        withdrawn = ap (λ (x : Card). x.factors) (taken d (Withdraw c.number (c.count + 1)) w) ∙ h.earlier;
        withdrawn_shut = ap (λ (x : Card). x.serial) (taken d (Withdraw c.number (c.count + 1)) w);
        posted = ap (λ (x : Card). x.factors) (taken d (Posted c.number (c.count + 1)) p) ∙ h.factors;
        posted_shut = ap (λ (x : Card). x.serial) (taken d (Posted c.number (c.count + 1)) p);
      }

  while_open : (calls : List Call) → (card_after (step c (Reduce f)) calls).serial ≡ c.count + 1 → WhileOpen c f (card_after (step c (Reduce f)) calls)
  while_open calls e = open_still _ (still_held _ _ _ _ serial_some _ (follow _ _ _ _ serial_some (step c (Reduce f)) calls (inl first_held)) e)

pub changes : ChangesStand
changes = record {
  refused = refused;
  figure = λ c kind l. same_either_way (cause c (Figure kind l)) c;
  drawing = λ c kind l. same_either_way (cause c (Drawing kind l)) c;
  opened = λ c f t. is_held _ _ _ _ (serial_some c f t) (step c (Reduce f)) (first_held c f t);
  while_open = while_open;
}
