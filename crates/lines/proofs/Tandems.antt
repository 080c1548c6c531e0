-- The greatest sum of a line at two places 1,200 apart, and the first place that attains it.
use Rattle.std.proofs.Common.{◌≡◌, ℕ, ◌+◌, ◌-◌, ◌*◌, ◌<◌, ◌≤◌, max, ◌⊎◌, pos, Some, None, ap, inl, inr, ⊎_elim, mul-le-mul_right, arith}
use Rattle.std.proofs.lemmas.Int.{ints}
use Rattle.algebra.specs.Frac.{◌≤F◌, Same, whole, over, ◌·F◌, ceil}
use Rattle.algebra.proofs.Frac.{trans, scales, same_adds}
use Rattle.algebra.proofs.Round.{ceils}
use Rattle.lines.specs.Lines.{Line, Rising, last, station, under, axles, Stands, IsTandem, Candidate, Summit}
use Rattle.lines.proofs.Cells.{better}
use Rattle.lines.proofs.Values.{place_up, held, value_on}

-- ---- no place does better than a candidate
pub record Beaten (d : Line) (a b c : ℕ) : Type 0 where
  pub candidate : Candidate d c
  pub most : axles d a b ≤F axles d c 1
  pub first : (c * b ≤ a) ⊎ (axles d c 1 ≤F axles d a b → ⊥)

pub beaten : (d : Line) → Rising d → (a b : ℕ) → Stands d a b → (c : ℕ) × Beaten d a b c
beaten d w a b S =
    let i = under d a b (d.count - 2) in
    let k = under d (a + 1200 * b) b (d.count - 2) in
    let A = held d w a b (omega (arith, S.fits)) in
    let B = held d w (a + 1200 * b) b S.fits in
    let r = better (station d i) (station d (i + 1)) (station d k) (station d (k + 1)) a b S.some (w.rises i A.inside) (w.rises k B.inside) A.above A.below B.above B.below in
    let c = r.0 in
    let s = r.1.stand in
    let one : 0 < 1 = omega arith in
    let v₁ = value_on d w c 1 one i (record { inside = A.inside; above = omega (arith, s.rear_lo); below = omega (arith, s.rear_hi) }) in
    let v₂ = value_on d w (c + 1200) 1 one k (record { inside = B.inside; above = omega (arith, s.front_lo); below = omega (arith, s.front_hi) }) in
    let v = same_adds _ _ _ _ v₁ v₂ in
    let end = place_up d w (k + 1) (d.count - 1) (omega (arith, B.inside)) (omega (arith, B.inside)) in (
      c,
      record {
        candidate = record {
          axle = ⊎_elim (⊎_elim (λ e. (i, omega (arith, A.inside), inl e)) (λ e. (i + 1, A.inside, inl e))) (⊎_elim (λ e. (k, omega (arith, B.inside), inr e)) (λ e. (k + 1, B.inside, inr e))) s.axle;
          fits = omega (arith, s.front_hi, end);
        };
        most = trans r.1.most v.1;
        first = ⊎_elim inl (λ f. inr (λ h. f (trans v.1 h))) r.1.first;
      },
    )

pub most : (d : Line) → Rising d → (c : ℕ) → Summit d c → (a b : ℕ) → Stands d a b → axles d a b ≤F axles d c 1
most d w c s a b S = let r = beaten d w a b S in trans r.1.most (s.ahead r.0 r.1.candidate).most

pub first : (d : Line) → Rising d → (c : ℕ) → Summit d c → (a b : ℕ) → Stands d a b → a < c * b → axles d c 1 ≤F axles d a b → ⊥
first d w c s a b S l h =
    let r = beaten d w a b S in
    let f = s.ahead r.0 r.1.candidate in
    ⊎_elim
    (λ e. let q = mul-le-mul_right b (f.first (trans h r.1.most)) in omega arith)
    (λ n. n (trans f.most h))
    r.1.first

-- ---- T
stood : (d : Line) (c : ℕ) → c + 1200 ≤ last d → Stands d c 1
stood d c h = record { some = omega arith; fits = omega arith }

to_whole : (n m k : ℕ) → 0 < m → 10000 * n ≤ k * m → 10000 ·F over (pos n) m ≤F whole (pos k)
to_whole n m k p h = let e : max 1 m ≡ m = omega arith in record { cross = omega (arith, ints, ap (λ i. k * i) e) }

of_whole : (n m k : ℕ) → 0 < m → 10000 ·F over (pos n) m ≤F whole (pos k) → 10000 * n ≤ k * m
of_whole n m k p h = let e : max 1 m ≡ m = omega arith in omega (arith, ints, h.cross, ap (λ i. k * i) e)

module _ (d : Line) (w : Rising d) (c : ℕ) (s : Summit d c) (n m : ℕ) (p : 0 < m) (e : Same (over (pos n) m) (axles d c 1)) where
  -- 10,000 times the sum is at most k where the rounded quotient is
  up_to : (k : ℕ) → ceil (10000 * n) m ≤ k → 10000 ·F axles d c 1 ≤F whole (pos k)
  up_to k h =
      let q = (ceils (10000 * n) m k p).0 h in
      trans (scales 10000 _ _ e.1) (to_whole n m k p q)

  down_to : (k : ℕ) → 10000 ·F axles d c 1 ≤F whole (pos k) → ceil (10000 * n) m ≤ k
  down_to k h =
      let q = trans (scales 10000 _ _ e.0) h in
      (ceils (10000 * n) m k p).1 (of_whole n m k p q)

  pub tandem_some : (t : ℕ) → 0 < n → t ≡ ceil (10000 * n) m → IsTandem d t (Some c)
  tandem_some t o r = record {
    place = record {
      fits = s.fits;
      most = most d w c s;
      first = first d w c s;
      positive = λ h. let q = trans e.0 h in omega (arith, ints, q.cross);
    };
    bound = λ a b S. trans (scales 10000 _ _ (most d w c s a b S)) (up_to t (omega arith));
    least = λ k h. rw r (down_to k (h c 1 (stood d c s.fits)));
  }

pub tandem_none : (d : Line) → ((a b : ℕ) → Stands d a b → axles d a b ≤F whole (pos 0)) → IsTandem d 0 None
tandem_none d h = record {
  place = h;
  bound = λ a b S. trans (scales 10000 _ _ (h a b S)) (record { cross = omega (arith, ints) });
  least = λ k f. omega arith;
}
