-- Every rising line has a T: of the places with an axle at a station one is ahead of all the others.
use Rattle.std.proofs.Common.{◌≡◌, ℕ, zero, suc, ◌+◌, ◌-◌, ◌*◌, ◌<◌, ◌≤◌, max, ◌⊎◌, ℤ, pos, negsuc, ◌*ℤ◌, Some, None, Option, sym, refl, ap, subst, inl, inr, ⊎_elim, arith}
use Rattle.std.proofs.lemmas.Int.{ints, by_lt_z}
use Rattle.std.proofs.lemmas.Bool.{cases_lt}
use Rattle.algebra.specs.Frac.{Frac, ◌≤F◌, Same, over, ceil}
use Rattle.algebra.proofs.Frac.{trans, refl_≤}
use Rattle.lines.specs.Lines.{Line, Rising, last, axles, IsTandem, Ahead, Summit}
use Rattle.lines.specs.Facts.{TandemExists}
use Rattle.lines.proofs.Values.{place_up}
use Rattle.lines.proofs.Tandems.{beaten, most, tandem_some, tandem_none}

-- ---- which of two places is ahead
pub ahead_self : (d : Line) (c : ℕ) → Ahead d c c
ahead_self d c = record { most = refl_≤ _; first = λ h. omega arith }

pub ahead_trans : (d : Line) (x y z : ℕ) → Ahead d x y → Ahead d y z → Ahead d x z
ahead_trans d x y z h k = record {
  most = trans k.most h.most;
  first = λ l. omega (arith, h.first (trans l k.most), k.first (trans h.most l));
}

compare : (f g : Frac) → (f ≤F g) ⊎ ((g ≤F f) × (f ≤F g → ⊥))
compare f g =
    by_lt_z (g.num *ℤ pos f.den) (f.num *ℤ pos g.den)
    (λ h. inr (record { cross = omega (arith, ints) }, λ k. omega (arith, ints, k.cross)))
    (λ h. inl (record { cross = omega (arith, ints) }))

either : (d : Line) (c e : ℕ) → Ahead d c e ⊎ Ahead d e c
either d c e =
    ⊎_elim
    (λ h. ⊎_elim
    (λ k. ⊎_elim (λ l. inl (record { most = k; first = λ m. omega arith })) (λ l. inr (record { most = h; first = λ m. omega arith })) (cases_lt c e))
    (λ k. inr (record { most = h; first = λ m. absurd (k.1 m) }))
    (compare (axles d e 1) (axles d c 1)))
    (λ h. inl (record { most = h.0; first = λ m. absurd (h.1 m) }))
    (compare (axles d c 1) (axles d e 1))

-- ---- the place ahead of all that have the property P, or none has it
module _ (d : Line) where
  abbrev Found : (ℕ → Type 0) → Type 0
  Found P = ((c : ℕ) × (c + 1200 ≤ last d) × ((e : ℕ) → P e → Ahead d c e)) ⊎ ((e : ℕ) → P e → ⊥)

  add : (P : ℕ → Type 0) (x : ℕ) → x + 1200 ≤ last d → Found P → Found (λ e. P e ⊎ (e ≡ x))
  add P x f (inl g) =
      ⊎_elim
      (λ a. inl (g.0, g.1, λ e. ⊎_elim (g.2 e) (λ q. subst (λ (i : ℕ). Ahead d g.0 i) (sym q) a)))
      (λ a. inl (x, f, λ e. ⊎_elim (λ p. ahead_trans d x g.0 e a (g.2 e p)) (λ q. subst (λ (i : ℕ). Ahead d x i) (sym q) (ahead_self d x))))
      (either d g.0 x)
  add P x f (inr n) = inl (x, f, λ e. ⊎_elim (λ p. absurd (n e p)) (λ q. subst (λ (i : ℕ). Ahead d x i) (sym q) (ahead_self d x)))

  fewer : (P Q : ℕ → Type 0) → ((e : ℕ) → Q e → P e) → Found P → Found Q
  fewer P Q f (inl g) = inl (g.0, g.1, λ e q. g.2 e (f e q))
  fewer P Q f (inr n) = inr (λ e q. n e (f e q))

  -- a place that fits, with an axle at one of the first k stations
  record Early (k e : ℕ) : Type 0 where
    axle : (j : ℕ) × (j < k) × ((e ≡ d.place j) ⊎ (e + 1200 ≡ d.place j))
    fits : e + 1200 ≤ last d

  -- the two places with an axle at station k
  rear_at : (k : ℕ) (P : ℕ → Type 0) → Found P → Found (λ e. P e ⊎ ((e ≡ d.place k) × (e + 1200 ≤ last d)))
  rear_at k P f =
      ⊎_elim
      (λ l. fewer P _ (λ e. ⊎_elim (λ p. p) (λ q. absurd (omega (arith, q.0, q.1)))) f)
      (λ l. fewer (λ e. P e ⊎ (e ≡ d.place k)) _ (λ e. ⊎_elim inl (λ q. inr q.0)) (add P (d.place k) l f))
      (cases_lt (last d) (d.place k + 1200))

  second_at : (k : ℕ) (P : ℕ → Type 0) → d.place k ≤ last d → Found P → Found (λ e. P e ⊎ (e + 1200 ≡ d.place k))
  second_at k P h f =
      ⊎_elim
      (λ l. fewer P _ (λ e. ⊎_elim (λ p. p) (λ q. absurd (omega arith))) f)
      (λ l. fewer (λ e. P e ⊎ (e ≡ d.place k - 1200)) _ (λ e. ⊎_elim inl (λ q. inr (omega arith))) (add P (d.place k - 1200) (omega arith) f))
      (cases_lt (d.place k) 1200)

  module _ (w : Rising d) where
    found : (k : ℕ) → k ≤ d.count → Found (Early k)
    found zero h = inr (λ e p. absurd (omega (arith, p.axle.1)))
    found (suc k) h =
        let below = found k (omega arith) in
        let up = place_up d w k (d.count - 1) (omega arith) (omega (arith, w.some)) in
        let more = second_at k _ up (rear_at k (Early k) below) in
        fewer _ (Early (suc k)) (λ e p.
        ⊎_elim
        (λ l. inl (inl (record { axle = (p.axle.0, l, p.axle.2); fits = p.fits })))
        (λ l.
        let s : p.axle.0 ≡ k = omega (arith, p.axle.1) in
        let z = ap d.place s in
        ⊎_elim (λ q. inl (inr (omega arith, p.fits))) (λ q. inr (omega arith)) p.axle.2)
        (cases_lt p.axle.0 k)) more

    -- a positive sum as a whole numerator over its denominator
    as_over : (f : Frac) (n : ℕ) → f.num ≡ pos n → Same (over (pos n) f.den) f
    as_over f n e =
        let m : max 1 f.den ≡ f.den = omega (arith, f.some) in
        (record { cross = rw (m, e) (omega (arith, ints)) }, record { cross = rw (m, e) (omega (arith, ints)) })

    above : (c : ℕ) → Summit d c → (z : ℤ) → (axles d c 1).num ≡ z → (t : ℕ) × (p : Option ℕ) × IsTandem d t p
    above c s (pos zero) e = (0, None, tandem_none d (λ a b S. trans (most d w c s a b S) (record { cross = rw e (omega (arith, ints)) })))
    above c s (pos (suc n)) e = (ceil (10000 * suc n) (axles d c 1).den, Some c, tandem_some d w c s (suc n) (axles d c 1).den (axles d c 1).some (as_over (axles d c 1) (suc n) e) _ (omega arith) refl)
    above c s (negsuc n) e = (0, None, tandem_none d (λ a b S. trans (most d w c s a b S) (record { cross = rw e (omega (arith, ints)) })))

    pub a_tandem : (t : ℕ) × (p : Option ℕ) × IsTandem d t p
    a_tandem =
        ⊎_elim
        (λ g. above g.0 (record { fits = g.1; ahead = λ e q. g.2 e (record { axle = q.axle; fits = q.fits }) }) _ refl)
        (λ n. (0, None, tandem_none d (λ a b S. let r = beaten d w a b S in absurd (n r.0 (record { axle = r.1.candidate.axle; fits = r.1.candidate.fits })))))
        (found d.count (omega arith))

pub tandem_exists : TandemExists
tandem_exists d w = a_tandem d w
