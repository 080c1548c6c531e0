-- What a placement is worth, read from the other kerb.
use Rattle.std.proofs.Common.{◌≡◌, ℕ, ◌+◌, ◌-◌, false, List, [], ◌∷◌, ◌++◌, Some, None, Option, sym, refl, ap, ◌∙◌, ap₂, arith}
use Rattle.model.specs.declared.owners.Owner.{Owner}
use Rattle.model.specs.declared.owners.Owner.TheVariants.{Lane1, Lane2, Lane3, Other}
use Rattle.placing.specs.Kind.{Kind, Laws, Commutes}
use Rattle.placing.specs.Placing.{Road, width, span, times, hit, worth, Placement, Best}
use Rattle.placing.specs.Mirrors.{Mirrored, SameMirrored}

-- the same parts from the right
turned : List Owner → List Owner
turned [] = []
turned (p ∷ ps) = turned ps ++ (p ∷ [])

span_end : (L : ℕ) (ps : List Owner) (p : Owner) → span L (ps ++ (p ∷ [])) ≡ span L ps + width L p
span_end L [] p = omega arith
span_end L (q ∷ ps) p = omega (arith, span_end L ps p)

times_end : (k : Owner) (ps : List Owner) (p : Owner) → times k (ps ++ (p ∷ [])) ≡ times k ps + hit p k
times_end k [] p = omega arith
times_end k (q ∷ ps) p = omega (arith, times_end k ps p)

span_turned : (L : ℕ) (ps : List Owner) → span L (turned ps) ≡ span L ps
unfolding turned
span_turned L [] = refl
span_turned L (p ∷ ps) = omega (arith, span_end L (turned ps) p, span_turned L ps)

times_turned : (k : Owner) (ps : List Owner) → times k (turned ps) ≡ times k ps
unfolding turned
times_turned k [] = refl
times_turned k (p ∷ ps) = omega (arith, times_end k (turned ps) p, times_turned k ps)

placed_turned : {W : Type 0} (R S : Road W) → S.slices ≡ R.slices → S.lane ≡ R.lane → (m o : ℕ) (ps : List Owner) → Placement R 0 m o ps → Placement S 0 m o (turned ps)
placed_turned R S es el m o ps h = record {
  covers = omega (arith, span_turned S.lane ps, ap (λ l. span l ps) el, h.covers, es);
  holds = record {
    first = times_turned Lane1 ps ∙ h.holds.first;
    second = times_turned Lane2 ps ∙ h.holds.second;
    third = times_turned Lane3 ps ∙ h.holds.third;
    others = times_turned Other ps ∙ h.holds.others;
  };
}

module _ {W : Type 0} (K : Kind W) (L : Laws K) (either : Commutes K) where
  worth_end : (S : Road W) (j : ℕ) (ps : List Owner) (p : Owner) → worth K S j (ps ++ (p ∷ [])) ≡ K.sum (worth K S j ps) (S.part p (j + span S.lane ps))
  worth_end S j [] p = L.right (S.part p j) ∙ ap (S.part p) (omega arith) ∙ sym (L.left _)
  worth_end S j (q ∷ ps) p =
      ap (K.sum (S.part q j)) (worth_end S (j + width S.lane q) ps p ∙ ap (λ x. K.sum (worth K S (j + width S.lane q) ps) (S.part p x)) (omega arith))
      ∙ sym (L.assoc (S.part q j) (worth K S (j + width S.lane q) ps) (S.part p (j + (width S.lane q + span S.lane ps))))

  worth_turned : (R S : Road W) → Mirrored R S → (j i : ℕ) (ps : List Owner) → i + span R.lane ps + j ≡ R.slices → worth K S i (turned ps) ≡ worth K R j ps
  unfolding turned
  worth_turned R S r j i [] h = refl
  worth_turned R S r j i (p ∷ ps) h =
      let w = width R.lane p in
      let e : i + span S.lane (turned ps) ≡ R.slices - j - w = omega (arith, span_turned S.lane ps, ap (λ l. span l ps) r.lane) in
      worth_end S i (turned ps) p
      ∙ ap₂ (λ (x y : W). K.sum x y) (worth_turned R S r (j + w) i ps (omega arith)) (ap (S.part p) e ∙ r.part p j (omega arith))
      ∙ either (worth K R (j + w) ps) (R.part p j)

  mirrored_back : (R S : Road W) → Mirrored R S → Mirrored S R
  mirrored_back R S r = record {
    slices = sym r.slices;
    lane = sym r.lane;
    part = λ p j h.
        let e : width S.lane p ≡ width R.lane p = ap (λ l. width l p) r.lane in
        let i = R.slices - j - width R.lane p in
        let f : S.slices - j - width S.lane p ≡ i = omega (arith, r.slices) in
        let g : R.slices - i - width R.lane p ≡ j = omega (arith, r.slices) in
        ap (R.part p) f ∙ sym (r.part p i (omega (arith, r.slices))) ∙ ap (S.part p) g;
  }

  best_mirrored : (R S : Road W) (m o : ℕ) (w : W) → Mirrored R S → Best K R 0 m o (Some w) → (s : Option W) → Best K S 0 m o s → s ≡ Some w
  best_mirrored R S m o w r b = go
    where
      back : Mirrored S R
      back = mirrored_back R S r

      there : (ps : List Owner) → Placement R 0 m o ps → Placement S 0 m o (turned ps)
      there ps p = placed_turned R S r.slices r.lane m o ps p

      here : (qs : List Owner) → Placement S 0 m o qs → Placement R 0 m o (turned qs)
      here qs q = placed_turned S R back.slices back.lane m o qs q

      worth_there : (ps : List Owner) → Placement R 0 m o ps → worth K S 0 (turned ps) ≡ worth K R 0 ps
      worth_there ps p = worth_turned R S r 0 0 ps (omega (arith, p.covers))

      worth_here : (qs : List Owner) → Placement S 0 m o qs → worth K R 0 (turned qs) ≡ worth K S 0 qs
      worth_here qs q = worth_turned S R back 0 0 qs (omega (arith, q.covers))

      go : (s : Option W) → Best K S 0 m o s → s ≡ Some w
      go None none = absurd (none (turned b.0.0) (there b.0.0 b.0.1))
      go (Some v) d =
          let ps = b.0.0 in
          let qs = d.0.0 in
          let up : K.below v w ≡ false = rw (worth_there ps b.0.1, b.0.2) at (d.1 (turned ps) (there ps b.0.1)) in
          let down : K.below w v ≡ false = rw (worth_here qs d.0.1, d.0.2) at (b.1 (turned qs) (here qs d.0.1)) in
          ap Some (L.only v w up down)

pub same_mirrored : {W : Type 0} (K : Kind W) (L : Laws K) (R : Road W) (m o : ℕ) (w : W) → Best K R 0 m o (Some w) → SameMirrored K R m o (Some w)
same_mirrored K L R m o w b either S r = best_mirrored K L either R S m o w r b
