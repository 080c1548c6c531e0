-- The value of a line at a place, by any segment that holds it.
use Rattle.std.proofs.Common.{◌≡◌, ℕ, zero, suc, ◌+◌, ◌-◌, ◌*◌, ◌<◌, ◌≤◌, leb, sym, ap, subst, ⊎_elim, add-zero, mul-le-mul_right, le_of_mul-le-mul_right, arith}
use Rattle.std.proofs.lemmas.Bool.{cases_lt, cases_order, cond_both, leb-true, leb-false}
use Rattle.algebra.specs.Frac.{Same, whole}
use Rattle.algebra.proofs.Frac.{same_refl, same_sym, same_trans}
use Rattle.lines.specs.Lines.{Line, Rising, last, station, on, under, value_at, Holds}
use Rattle.lines.proofs.Cells.{at_left, at_right}

-- ---- places
climb : (d : Line) → Rising d → (i n : ℕ) → i + n < d.count → d.place i ≤ d.place (i + n)
climb d w i zero h = simp add-zero (omega arith)
climb d w i (suc n) h =
    let up = climb d w i n (omega arith) in
    let here = w.rises (i + n) (omega arith) in
    let s : i + n + 1 ≡ i + suc n = omega arith in
    let e = ap d.place s in
    omega arith

pub place_up : (d : Line) → Rising d → (i k : ℕ) → i ≤ k → k < d.count → d.place i ≤ d.place k
place_up d w i k h b =
    let s : i + (k - i) ≡ k = omega arith in
    let e = ap d.place s in
    let up = climb d w i (k - i) (omega arith) in
    omega arith

pub place_less : (d : Line) → Rising d → (i k : ℕ) → i < k → k < d.count → d.place i < d.place k
place_less d w i k h b = omega (arith, w.rises i (omega arith), place_up d w (i + 1) k (omega arith) b)

-- ---- the segment that holds a place
under_is : (d : Line) → Rising d → (a b k : ℕ) → k + 1 < d.count → a ≤ d.place (k + 1) * b → Holds d (under d a b k) a b
under_is d w a b zero h l = record { inside = h; above = omega (arith, ap (λ i. i * b) w.begins); below = l }
under_is d w a b (suc k) h l =
    let s : k + 1 ≡ suc k = omega arith in
    let e = ap (λ i. d.place i * b) s in
    cond_both (leb (d.place (suc k) * b) a) (suc k) (under d a b k) (λ i. Holds d i a b)
    (λ y. record { inside = h; above = leb-true (d.place (suc k) * b) a y; below = l })
    (λ n. under_is d w a b k (omega arith) (omega (arith, leb-false (d.place (suc k) * b) a n)))

pub held : (d : Line) → Rising d → (a b : ℕ) → a ≤ last d * b → Holds d (under d a b (d.count - 2)) a b
held d w a b h =
    let s : d.count - 2 + 1 ≡ d.count - 1 = omega (arith, w.some) in
    under_is d w a b (d.count - 2) (omega (arith, w.some)) (omega (arith, ap (λ i. d.place i * b) s))

module _ (d : Line) (w : Rising d) (a b : ℕ) (p : 0 < b) where
  before : (i k : ℕ) → i < k → Holds d i a b → Holds d k a b → Same (on d i a b) (on d k a b)
  before i k l h j =
      let up = mul-le-mul_right b (place_up d w (i + 1) k (omega arith) (omega (arith, j.inside))) in
      let e : a ≡ d.place (i + 1) * b = omega (arith, h.below, j.above) in
      let f : a ≡ d.place k * b = omega (arith, h.below, j.above) in
      let q : d.place k ≤ d.place (i + 1) = le_of_mul-le-mul_right {m = d.place k} {n = d.place (i + 1)} {k = b} (omega arith) p in
      let n : i + 1 ≡ k = ⊎_elim (λ m. absurd (omega (arith, place_less d w (i + 1) k m (omega (arith, j.inside))))) (λ m. omega arith) (cases_lt (i + 1) k) in
      same_trans _ (whole (d.value (i + 1))) _ (at_right (station d i) (station d (i + 1)) a b p (w.rises i h.inside) e)
      (subst (λ (z : ℕ). Same (whole (d.value z)) (on d k a b)) (sym n) (same_sym _ _ (at_left (station d k) (station d (k + 1)) a b p (w.rises k j.inside) f)))

  unique : (i k : ℕ) → Holds d i a b → Holds d k a b → Same (on d i a b) (on d k a b)
  unique i k h j =
      ⊎_elim (λ e. subst (λ (z : ℕ). Same (on d i a b) (on d z a b)) e (same_refl (on d i a b)))
      (⊎_elim (λ l. before i k l h j) (λ l. same_sym _ _ (before k i l j h))) (cases_order i k)

  -- the value by any segment that holds the place
  pub value_on : (i : ℕ) → Holds d i a b → Same (value_at d a b) (on d i a b)
  value_on i h =
      let up = mul-le-mul_right b (place_up d w (i + 1) (d.count - 1) (omega (arith, h.inside)) (omega (arith, h.inside))) in
      unique (under d a b (d.count - 2)) i (held d w a b (omega (arith, h.below))) h

-- ---- the value at a station
pub value_station : (d : Line) → Rising d → (i : ℕ) → i < d.count → Same (value_at d (d.place i) 1) (whole (d.value i))
value_station d w i h =
    let one : 0 < 1 = omega arith in
    ⊎_elim
    (λ l.
    let up = w.rises i l in
    same_trans _ _ _ (value_on d w (d.place i) 1 one i (record { inside = l; above = omega arith; below = omega arith }))
    (at_left (station d i) (station d (i + 1)) (d.place i) 1 one up (omega arith)))
    (λ l.
    let k = i - 1 in
    let s : k + 1 ≡ i = omega (arith, w.some) in
    let up = w.rises k (omega arith) in
    let e = ap d.place s in
    let v = at_right (station d k) (station d (k + 1)) (d.place i) 1 one up (omega arith) in
    same_trans _ _ _ (value_on d w (d.place i) 1 one k (record { inside = omega arith; above = omega arith; below = omega arith }))
    (subst (λ (j : ℕ). Same (on d k (d.place i) 1) (whole (d.value j))) s v))
    (cases_lt (i + 1) d.count)
