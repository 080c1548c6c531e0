-- Two segments that hold the two axles: on them the sum of the values runs straight, from candidate to candidate.
use Rattle.std.proofs.Common.{◌≡◌, ℕ, ◌+◌, ◌-◌, ◌*◌, ◌<◌, ◌≤◌, max, ◌⊎◌, [], ◌∷◌, ℤ, pos, negsuc, ◌+ℤ◌, ◌-ℤ◌, ◌*ℤ◌, ◌≤ℤ◌, refl, ap, subst, inl, inr, ⊎_elim, mul-pos, le_of_mul-le-mul_right, arith}
use Rattle.std.proofs.lemmas.Int.{ints, by_lt_z}
use Rattle.std.proofs.lemmas.Bool.{cases_lt}
use Rattle.algebra.specs.Frac.{Frac, ◌≤F◌, Same, whole, ◌+F◌}
use Rattle.lines.specs.Lines.{Station, between}
use Rattle.algebra.proofs.Frac.{from_≈}
use Rattle.algebra.proofs.IntLaws.{*ℤ-nonneg, *ℤ-nonpos}
use Rattle.algebra.proofs.Ring.{var, num, ◌:+◌, ◌:-◌, ◌:*◌, ring}

-- ---- one step along two lines at once
*ℤ-above : (x y : ℤ) → pos 1 ≤ℤ x → pos 1 ≤ℤ y → pos 1 ≤ℤ (x *ℤ y)
*ℤ-above (pos x) (pos y) h k = let p : 0 < x * y = mul-pos {m = x} {n = y} (omega (arith, ints)) (omega (arith, ints)) in omega (arith, ints)
*ℤ-above (pos x) (negsuc y) h k = absurd (omega (arith, ints))
*ℤ-above (negsuc x) y h k = absurd (omega (arith, ints))

module _ (xv tv yv wv : ℤ) (D E b q₁ Q₁ : ℕ) (δ : ℤ) where
  abbrev slope : ℤ
  slope = pos E *ℤ (tv -ℤ xv) +ℤ pos D *ℤ (wv -ℤ yv)

  abbrev here : (p q P Q : ℕ) → ℤ
  here p q P Q = ((xv *ℤ pos p +ℤ tv *ℤ pos q) *ℤ pos (b * E) +ℤ (yv *ℤ pos P +ℤ wv *ℤ pos Q) *ℤ pos (b * D)) *ℤ pos ((1 * D) * (1 * E))

  abbrev there : (p₁ P₁ : ℕ) → ℤ
  there p₁ P₁ = ((xv *ℤ pos p₁ +ℤ tv *ℤ pos q₁) *ℤ pos (1 * E) +ℤ (yv *ℤ pos P₁ +ℤ wv *ℤ pos Q₁) *ℤ pos (1 * D)) *ℤ pos ((b * D) * (b * E))

  core : (p q p₁ P Q P₁ : ℕ)
      → pos p₁ ≡ pos D -ℤ pos q₁ → pos p ≡ (pos D -ℤ pos q₁) *ℤ pos b +ℤ δ → pos q ≡ pos q₁ *ℤ pos b -ℤ δ
      → pos P₁ ≡ pos E -ℤ pos Q₁ → pos P ≡ (pos E -ℤ pos Q₁) *ℤ pos b +ℤ δ → pos Q ≡ pos Q₁ *ℤ pos b -ℤ δ
      → there p₁ P₁ -ℤ here p q P Q ≡ δ *ℤ slope *ℤ pos (b * D * E)
  core p q p₁ P Q P₁ e₁ e₂ e₃ f₁ f₂ f₃ =
      let ρ = xv ∷ tv ∷ yv ∷ wv ∷ pos D ∷ pos E ∷ pos b ∷ pos q₁ ∷ pos Q₁ ∷ δ ∷ [] in
      let x = var 0 in
      let t = var 1 in
      let y = var 2 in
      let w = var 3 in
      let d = var 4 in
      let e = var 5 in
      let k = var 6 in
      let q' = var 7 in
      let Q' = var 8 in
      let δ' = var 9 in
      let one = num (pos 1) in
      rw (e₁, e₂, e₃, f₁, f₂, f₃)
      (ring ρ
      (((x :* (d :- q') :+ t :* q') :* (one :* e) :+ (y :* (e :- Q') :+ w :* Q') :* (one :* d)) :* ((k :* d) :* (k :* e))
      :- ((x :* ((d :- q') :* k :+ δ') :+ t :* (q' :* k :- δ')) :* (k :* e) :+ (y :* ((e :- Q') :* k :+ δ') :+ w :* (Q' :* k :- δ')) :* (k :* d)) :* ((one :* d) :* (one :* e)))
      (δ' :* (e :* (t :- x) :+ d :* (w :- y)) :* (k :* d :* e))
      refl)

-- ---- a place at an end of its segment
pub gap : (x t b : ℕ) → x ≤ t → b * (t - x) + x * b ≡ t * b
gap x t b h = let e : t ≡ x + (t - x) = omega arith in omega (arith, ap (λ i. i * b) e)

pub wide : (x t b : ℕ) → 0 < b → x < t → max 1 (b * (t - x)) ≡ b * (t - x)
wide x t b p h = let d : 0 < t - x = omega arith in omega (arith, mul-pos p d)

pub at_left : (x t : Station) (a b : ℕ) → 0 < b → x.place < t.place → a ≡ x.place * b → Same (between x t a b) (whole x.value)
at_left x t a b p g e =
    let n = gap x.place t.place b (omega arith) in
    let e₁ : t.place * b - a ≡ b * (t.place - x.place) = omega arith in
    let e₂ : a - x.place * b ≡ 0 = omega arith in
    from_≈ _ _ (rw (e₁, e₂, wide x.place t.place b p g)
    (ring (x.value ∷ t.value ∷ pos (b * (t.place - x.place)) ∷ []) ((var 0 :* var 2 :+ var 1 :* num (pos 0)) :* num (pos 1)) (var 0 :* var 2) refl))

pub at_right : (x t : Station) (a b : ℕ) → 0 < b → x.place < t.place → a ≡ t.place * b → Same (between x t a b) (whole t.value)
at_right x t a b p g e =
    let n = gap x.place t.place b (omega arith) in
    let e₁ : t.place * b - a ≡ 0 = omega arith in
    let e₂ : a - x.place * b ≡ b * (t.place - x.place) = omega arith in
    from_≈ _ _ (rw (e₁, e₂, wide x.place t.place b p g)
    (ring (x.value ∷ t.value ∷ pos (b * (t.place - x.place)) ∷ []) ((var 0 :* num (pos 0) :+ var 1 :* var 2) :* num (pos 1)) (var 1 :* var 2) refl))

-- ---- from the rear place a / b to the whole place c, on the two segments that hold the axles
record Parts (X T a b c : ℕ) (δ : ℤ) : Type 0 where
  rest : pos (T * 1 - c) ≡ pos (T - X) -ℤ pos (c - X * 1)
  more : pos (T * b - a) ≡ (pos (T - X) -ℤ pos (c - X * 1)) *ℤ pos b +ℤ δ
  less : pos (a - X * b) ≡ pos (c - X * 1) *ℤ pos b -ℤ δ

parts : (X T a b c : ℕ) (δ : ℤ) → X ≤ c → c ≤ T → X * b ≤ a → a ≤ T * b → pos a +ℤ δ ≡ pos (c * b) → Parts X T a b c δ
parts X T a b c δ h₁ h₂ h₃ h₄ e =
    let u : T * 1 - c + c ≡ T = omega arith in
    let v : c - X * 1 + X ≡ c = omega arith in
    let r : pos (T * 1 - c) ≡ pos (T - X) -ℤ pos (c - X * 1) = omega (arith, ints) in
    let m : pos (T * b - a) ≡ pos ((T * 1 - c) * b) +ℤ δ = omega (arith, ints, ap (λ i. i * b) u) in
    record { rest = r; more = subst (λ (z : ℤ). pos (T * b - a) ≡ z *ℤ pos b +ℤ δ) r m; less = omega (arith, ints, ap (λ i. i * b) v) }

from_gap : (m n z : ℤ) → n -ℤ m ≡ z → pos 0 ≤ℤ z → m ≤ℤ n
from_gap m n z e h = omega (arith, ints)

gap_out : (m n z : ℤ) → n -ℤ m ≡ z → pos 1 ≤ℤ z → n ≤ℤ m → ⊥
gap_out m n z e h k = omega (arith, ints)

module _ (x t y w : Station) (a b : ℕ) (some : 0 < b) (g : x.place < t.place) (k : y.place < w.place)
    (h₁ : x.place * b ≤ a) (h₂ : a ≤ t.place * b) (h₃ : y.place * b ≤ a + 1200 * b) (h₄ : a + 1200 * b ≤ w.place * b) where
  abbrev rate : ℤ
  rate = pos (w.place - y.place) *ℤ (t.value -ℤ x.value) +ℤ pos (t.place - x.place) *ℤ (w.value -ℤ y.value)

  -- a whole place with an axle at one of the four stations, and both axles on their segments
  pub record Stand (c : ℕ) : Type 0 where
    pub axle : ((c ≡ x.place) ⊎ (c ≡ t.place)) ⊎ ((c + 1200 ≡ y.place) ⊎ (c + 1200 ≡ w.place))
    pub rear_lo : x.place ≤ c
    pub rear_hi : c ≤ t.place
    pub front_lo : y.place ≤ c + 1200
    pub front_hi : c + 1200 ≤ w.place

  abbrev pub sum_here : Frac
  sum_here = between x t a b +F between y w (a + 1200 * b) b

  abbrev pub sum_there : ℕ → Frac
  sum_there c = between x t c 1 +F between y w (c + 1200) 1

  differ : (c : ℕ) → x.place ≤ c → c ≤ t.place → y.place ≤ c + 1200 → c + 1200 ≤ w.place
      → (sum_there c).num *ℤ pos sum_here.den -ℤ sum_here.num *ℤ pos (sum_there c).den ≡ (pos (c * b) -ℤ pos a) *ℤ rate *ℤ pos (b * (t.place - x.place) * (w.place - y.place))
  differ c c₁ c₂ c₃ c₄ =
      let δ = pos (c * b) -ℤ pos a in
      let r = parts x.place t.place a b c δ c₁ c₂ h₁ h₂ (omega (arith, ints)) in
      let f = parts y.place w.place (a + 1200 * b) b (c + 1200) δ c₃ c₄ h₃ h₄ (omega (arith, ints)) in
      rw (wide x.place t.place b some g, wide y.place w.place b some k, wide x.place t.place 1 (omega arith) g, wide y.place w.place 1 (omega arith) k)
      (core x.value t.value y.value w.value (t.place - x.place) (w.place - y.place) b (c - x.place * 1) (c + 1200 - y.place * 1) δ
      (t.place * b - a) (a - x.place * b) (t.place * 1 - c)
      (w.place * b - (a + 1200 * b)) (a + 1200 * b - y.place * b) (w.place * 1 - (c + 1200))
      r.rest r.more r.less f.rest f.more f.less)

  cell : 0 < b * (t.place - x.place) * (w.place - y.place)
  cell = mul-pos (mul-pos some (omega arith)) (omega arith)

  step : (c : ℕ) → Stand c → pos 0 ≤ℤ ((pos (c * b) -ℤ pos a) *ℤ rate) → sum_here ≤F sum_there c
  step c S h =
      record { cross = from_gap _ _ _ (differ c S.rear_lo S.rear_hi S.front_lo S.front_hi) (*ℤ-nonneg _ (pos (b * (t.place - x.place) * (w.place - y.place))) h (omega (arith, ints))) }

  strict : (c : ℕ) → Stand c → pos 1 ≤ℤ ((pos (c * b) -ℤ pos a) *ℤ rate) → sum_there c ≤F sum_here → ⊥
  strict c S h r =
      gap_out _ _ _ (differ c S.rear_lo S.rear_hi S.front_lo S.front_hi) (*ℤ-above _ (pos (b * (t.place - x.place) * (w.place - y.place))) h (omega (arith, ints, cell))) r.cross

  cancel : (m n : ℕ) → m * b ≤ n * b → m ≤ n
  cancel m n h = le_of_mul-le-mul_right {m = m} {n = n} {k = b} h some

  low : (c : ℕ) × Stand c × (c * b ≤ a)
  low = ⊎_elim
      (λ l.
      let c = y.place - 1200 in
      let e : c + 1200 ≡ y.place = omega arith in
      let n = ap (λ i. i * b) e in
      (c, record { axle = inr (inl e); rear_lo = omega arith; rear_hi = cancel c t.place (omega arith); front_lo = omega arith; front_hi = omega arith }, omega arith))
      (λ l.
      (x.place, record { axle = inl (inl refl); rear_lo = omega arith; rear_hi = omega arith; front_lo = l; front_hi = cancel (x.place + 1200) w.place (omega arith) }, h₁))
      (cases_lt (x.place + 1200) y.place)

  high : (c : ℕ) × Stand c × (a ≤ c * b)
  high = ⊎_elim
      (λ l.
      let c = w.place - 1200 in
      let f : 1200 ≤ w.place = cancel 1200 w.place (omega arith) in
      let e : c + 1200 ≡ w.place = omega arith in
      let n = ap (λ i. i * b) e in
      (c, record { axle = inr (inr e); rear_lo = cancel x.place c (omega arith); rear_hi = omega arith; front_lo = omega arith; front_hi = omega arith }, omega arith))
      (λ l.
      (t.place, record { axle = inl (inr refl); rear_lo = omega arith; rear_hi = omega arith; front_lo = cancel y.place (t.place + 1200) (omega arith); front_hi = l }, h₂))
      (cases_lt w.place (t.place + 1200))

  -- some candidate is no worse, and it is not after the place or it is better
  pub record Better (c : ℕ) : Type 0 where
    pub stand : Stand c
    pub most : sum_here ≤F sum_there c
    pub first : (c * b ≤ a) ⊎ (sum_there c ≤F sum_here → ⊥)

  pub better : (c : ℕ) × Better c
  better =
      by_lt_z (pos 0) rate
      (λ n. ⊎_elim
      (λ l. (
        high.0,
        record {
          stand = high.1;
          most = step high.0 high.1 (*ℤ-nonneg (pos (high.0 * b) -ℤ pos a) rate (omega (arith, ints, high.2)) (omega (arith, ints)));
          first = inr (strict high.0 high.1 (*ℤ-above (pos (high.0 * b) -ℤ pos a) rate (omega (arith, ints)) (omega (arith, ints))));
        },
      ))
      (λ l. (high.0, record { stand = high.1; most = step high.0 high.1 (*ℤ-nonneg (pos (high.0 * b) -ℤ pos a) rate (omega (arith, ints, high.2)) (omega (arith, ints))); first = inl l }))
      (cases_lt a (high.0 * b)))
      (λ n. (low.0, record { stand = low.1; most = step low.0 low.1 (*ℤ-nonpos (pos (low.0 * b) -ℤ pos a) rate (omega (arith, ints, low.2)) n); first = inl low.2 }))
