-- The owners of the chosen placement, as they are written from the left.
use Rattle.std.proofs.Common.{◌≡◌, ℕ, ◌+◌, ◌≤◌, false, List, [], ◌∷◌, ◌++◌, take, drop, replicate, Some, sym, ap, ◌∙◌, subst, append_assoc, arith}
use Rattle.std.proofs.lemmas.List.{append-nil, drop-drop}
use Rattle.model.specs.Owners.{number_of}
use Rattle.model.specs.declared.owners.Owner.{Owner}
use Rattle.placing.specs.Kind.{Kind, Laws}
use Rattle.placing.specs.Placing.{Road, width, owners, worth, Placement, Best, Bounded, Chosen, Won}
use Rattle.placing.specs.Steps.{Taken, Leads}
use Rattle.placing.proofs.Owners.{width_pos}
use Rattle.placing.proofs.Steps.{taken, irreflexive}
use Rattle.placing.proofs.Chosen.{chosen_step, chosen_worth, chosen_once}

module _ {W : Type 0} (K : Kind W) (L : Laws K) (R : Road W) (m o : ℕ) (was : List ℕ) where
  -- the slices before j have their owners, and whatever is chosen from j on completes them
  pub record Reading (j m' o' : ℕ) (own : List ℕ) : Type 0 where
    pub inside : j ≤ R.slices
    pub some : (ts : List Owner) × Placement R j m' o' ts
    pub beyond : drop j own ≡ drop j was
    pub so_far : (ts : List Owner) → Chosen K R j m' o' ts → (ps : List Owner) × Chosen K R 0 m o ps × (owners R.lane ps ≡ take j own ++ owners R.lane ts)

  pub reading_more : Bounded K R → (j m' o' m'' o'' : ℕ) (k : Owner) (v n : ℕ) (own new : List ℕ) → Reading j m' o' own → Leads K R j m' o' k → Taken k m' o' m'' o'' → v ≡ width R.lane k → n ≡ number_of k
      → take (j + v) new ≡ take j own ++ replicate v n → drop (j + v) new ≡ drop (j + v) own → Reading (j + v) m'' o'' new
  reading_more u j m' o' m'' o'' k v n own new r l t e f =
      subst (λ (x : ℕ). take (j + x) new ≡ take j own ++ replicate x n → drop (j + x) new ≡ drop (j + x) own → Reading (j + x) m'' o'' new) (sym e) go
    where
      go : take (j + width R.lane k) new ≡ take j own ++ replicate (width R.lane k) n → drop (j + width R.lane k) new ≡ drop (j + width R.lane k) own → Reading (j + width R.lane k) m'' o'' new
      go front back = record {
        inside = omega (arith, l.placed.covers);
        some = (l.rest, taken R k m' o' m'' o'' t j l.rest l.placed);
        beyond = back ∙ sym (drop-drop (width R.lane k) j own) ∙ ap (drop (width R.lane k)) r.beyond ∙ drop-drop (width R.lane k) j was;
        so_far = λ ts c.
            let h = r.so_far (k ∷ ts) (chosen_step K L R j m' o' u k m'' o'' ts l t c) in
            let g = front ∙ ap (λ x. take j own ++ replicate (width R.lane k) x) f in
            (h.0, h.1, h.2 ∙ sym (ap (λ x. x ++ owners R.lane ts) g ∙ append_assoc (take j own) (replicate (width R.lane k) (number_of k)) (owners R.lane ts)));
      }

  pub reading_end : Bounded K R → (j m' o' : ℕ) (own : List ℕ) (w : W) → Reading j m' o' own → R.slices ≤ j → Best K R 0 m o (Some w) → Won K R m o w (take R.slices own) × (drop R.slices own ≡ drop R.slices was)
  reading_end u j m' o' own w r h b =
      let e : j ≡ R.slices = omega (arith, r.inside) in
      let c = r.so_far [] (record { placed = nil r.some.0 r.some.1; greatest = most; first = λ qs p w. tt }) in
      let s : owners R.lane c.0 ≡ take R.slices own = c.2 ∙ append-nil (take j own) ∙ ap (λ x. take x own) e in
      (record { parts = c.0; chosen = c.1; value = chosen_worth K L R 0 m o c.0 w c.1 b; same = sym s; unique = λ qs d. chosen_once K L R 0 m o qs c.0 d c.1 ∙ s }, subst (λ (x : ℕ). drop x own ≡ drop x was) e r.beyond)
    where
      nil : (ts : List Owner) → Placement R j m' o' ts → Placement R j m' o' []
      nil [] p = p
      nil (q ∷ ts) p = absurd (omega (arith, p.covers, width_pos R.lane q u.wide))

      most : (qs : List Owner) → Placement R j m' o' qs → K.below K.zero (worth K R j qs) ≡ false
      most [] p = irreflexive K L K.zero
      most (q ∷ qs) p = absurd (omega (arith, p.covers, width_pos R.lane q u.wide))
