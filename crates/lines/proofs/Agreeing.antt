-- Lines with the same stations have the same T and place.
use Rattle.std.proofs.Common.{◌≡◌, ℕ, zero, suc, ◌+◌, ◌-◌, ◌*◌, ◌<◌, ◌≤◌, cond, leb, ℤ, pos, Some, None, Option, sym, refl, ap, ◌∙◌, subst, ap₂, arith}
use Rattle.std.proofs.lemmas.Bool.{cond_both}
use Rattle.algebra.specs.Frac.{Frac, ◌≤F◌, whole, ◌+F◌, ◌·F◌}
use Rattle.lines.specs.Lines.{Station, between, Line, last, station, on, under, value_at, axles, Stands, Placed, IsTandem, Agree}

abbrev made : ℕ → ℤ → Station
made x y = record { place = x; value = y }

module _ (d e : Line) (w : Agree d e) (two : 2 ≤ d.count) where
  under_same : (a b k : ℕ) → k + 1 < d.count → under d a b k ≡ under e a b k
  under_same a b zero h = refl
  under_same a b (suc k) h =
      let p = w.place (suc k) (omega arith) in
      ap₂ (λ (x y : ℕ). cond (leb (x * b) a) (suc k) y) p (under_same a b k (omega arith))

  under_low : (a b k : ℕ) → under d a b k ≤ k
  under_low a b zero = omega arith
  under_low a b (suc k) =
      let r = under_low a b k in
      cond_both (leb (d.place (suc k) * b) a) (suc k) (under d a b k) (λ i. i ≤ suc k) (λ y. omega arith) (λ n. omega arith)

  station_same : (k : ℕ) → k < d.count → station d k ≡ station e k
  station_same k h = ap₂ made (w.place k h) (w.value k h)

  value_same : (a b : ℕ) → value_at d a b ≡ value_at e a b
  value_same a b =
      let n : d.count - 2 ≡ e.count - 2 = omega (arith, w.count) in
      let i = under d a b (d.count - 2) in
      let low = under_low a b (d.count - 2) in
      let u : i ≡ under e a b (e.count - 2) = under_same a b (d.count - 2) (omega arith) ∙ ap (under e a b) n in
      ap₂ (λ (x y : Station). between x y a b) (station_same i (omega arith)) (station_same (i + 1) (omega arith))
      ∙ ap (λ (k : ℕ). on e k a b) u

  pub axles_same : (a b : ℕ) → axles d a b ≡ axles e a b
  axles_same a b = ap₂ (λ (x y : Frac). x +F y) (value_same a b) (value_same (a + 1200 * b) b)

  last_same : last d ≡ last e
  last_same = let n : d.count - 1 ≡ e.count - 1 = omega (arith, w.count) in w.place (d.count - 1) (omega arith) ∙ ap e.place n

  back : (a b : ℕ) → Stands e a b → Stands d a b
  back a b S = record { some = S.some; fits = subst (λ (z : ℕ). a + 1200 * b ≤ z * b) (sym last_same) S.fits }

  forth : (a b : ℕ) → Stands d a b → Stands e a b
  forth a b S = record { some = S.some; fits = subst (λ (z : ℕ). a + 1200 * b ≤ z * b) last_same S.fits }

  placed_same : (p : Option ℕ) → Placed d p → Placed e p
  placed_same (Some c) g = record {
    fits = subst (λ (z : ℕ). c + 1200 ≤ z) last_same g.fits;
    most = λ a b S. rw (sym (axles_same a b), sym (axles_same c 1)) (g.most a b (back a b S));
    first = λ a b S l h. g.first a b (back a b S) l (rw (axles_same a b, axles_same c 1) h);
    positive = λ h. g.positive (rw (axles_same c 1) h);
  }
  placed_same None g = λ a b S. rw (sym (axles_same a b)) (g a b (back a b S))

  pub tandem_same : (t : ℕ) (p : Option ℕ) → IsTandem d t p → IsTandem e t p
  tandem_same t p h = record {
    place = placed_same p h.place;
    bound = λ a b S. subst (λ (f : Frac). 10000 ·F f ≤F whole (pos t)) (axles_same a b) (h.bound a b (back a b S));
    least = λ k f. h.least k (λ a b S. subst (λ (f : Frac). 10000 ·F f ≤F whole (pos k)) (sym (axles_same a b)) (f a b (forth a b S)));
  }
