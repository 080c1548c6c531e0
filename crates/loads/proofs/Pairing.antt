-- One place that is tried: the code's sum over its span is the sum of the values at both axles.
use Rattle.std.proofs.Common.{◌≡◌, ℕ, zero, suc, ◌+◌, ◌-◌, ◌*◌, ◌<◌, ◌≤◌, max, List, [], ◌∷◌, get_or, ℤ, pos, negsuc, ◌+ℤ◌, neg_ℤ, ◌*ℤ◌, nat_abs, sym, refl, ap, ◌∙◌, subst, ap₂, mul-one, mul-le-mul_right, arith, w32, w64, SFits, to_z, of_z}
use Rattle.std.proofs.lemmas.Int.{ints}
use Rattle.algebra.specs.Frac.{Same, whole, over, ◌+F◌}
use Rattle.algebra.proofs.Frac.{from_≈, same_refl, same_sym, same_trans, same_adds}
use Rattle.algebra.proofs.Ring.{var, num, ◌:+◌, ◌:*◌, ring}
use Rattle.lines.specs.Lines.{value_at}
use Rattle.lines.proofs.Values.{value_on}
use Rattle.loads.specs.declared.line.Line.{Line as OnGrid}
use Rattle.loads.specs.declared.others.Other.{Other}
use Rattle.loads.specs.declared.stations.Stations.{Stations}
use Rattle.loads.specs.Held.{line_of, Places, Values}
use Rattle.loads.specs.Axles.{Under}
use Rattle.loads.specs.Peaks.{Paired}
use Rattle.loads.proofs.Counts.{rising}

-- v + N / m, over m
joined : (v n N : ℤ) (m M : ℕ) → 0 < m → M ≡ m → n ≡ v *ℤ pos m +ℤ N → Same (over n m) (whole v +F over N M)
joined v n N m M p e f =
    let e₁ : max 1 m ≡ m = omega arith in
    let e₂ : max 1 M ≡ m = omega arith in
    let e₃ : 1 * m ≡ m = omega arith in
    from_≈ _ _ (rw (e₁, e₂, e₃, f) (ring (v ∷ N ∷ pos m ∷ []) ((var 0 :* var 2 :+ var 1) :* var 2) ((var 0 :* var 2 :+ var 1 :* num (pos 1)) :* var 2) refl))

paired_is : (c : ℕ) (zs : List ℕ) (ws : List ℤ) → Places c zs → (i k z m : ℕ) (n : ℤ) → k + 1 < c → get_or zs k 0 ≤ z → z ≤ get_or zs (k + 1) 0
    → m ≡ get_or zs (k + 1) 0 - get_or zs k 0
    → n ≡ get_or ws i (pos 0) *ℤ pos m +ℤ (get_or ws k (pos 0) *ℤ pos (get_or zs (k + 1) 0 - z) +ℤ get_or ws (k + 1) (pos 0) *ℤ pos (z - get_or zs k 0))
    → Same (over n m) (whole (get_or ws i (pos 0)) +F value_at (line_of c zs ws) z 1)
paired_is c zs ws r i k z m n h lo hi e f =
    let d = line_of c zs ws in
    let one : 0 < 1 = omega arith in
    let v = value_on d (rising c zs ws r) z 1 one k (record { inside = h; above = omega arith; below = omega arith }) in
    let up = r.rises k h in
    let z₁ = get_or zs k 0 in
    let z₂ = get_or zs (k + 1) 0 in
    let N = get_or ws k (pos 0) *ℤ pos (z₂ * 1 - z) +ℤ get_or ws (k + 1) (pos 0) *ℤ pos (z - z₁ * 1) in
    let g₁ : z₂ * 1 ≡ z₂ = mul-one z₂ in
    let g₂ : z₁ * 1 ≡ z₁ = mul-one z₁ in
    let g : n ≡ get_or ws i (pos 0) *ℤ pos m +ℤ N = rw (g₁, g₂) f in
    let a = joined (get_or ws i (pos 0)) n N m (1 * (z₂ - z₁)) (omega arith) (omega arith) g in
    same_trans _ _ _ a (same_adds _ _ _ _ (same_refl (whole (get_or ws i (pos 0)))) (same_sym _ _ v))

-- ---- a value times a length
abs_neg : (z : ℤ) → nat_abs (neg_ℤ z) ≡ nat_abs z
abs_neg (pos zero) = refl
abs_neg (pos (suc n)) = refl
abs_neg (negsuc n) = refl

pub times_within : (v : ℤ) (b m : ℕ) → nat_abs v ≤ b → nat_abs (v *ℤ pos m) ≤ b * m
times_within (pos a) b m h = mul-le-mul_right m h
times_within (negsuc a) b m h = omega (arith, abs_neg (pos (suc a * m)), mul-le-mul_right m h)

span_within : (s l r : ℤ) (x y m : ℕ) → nat_abs s ≤ 400000 * m → nat_abs l ≤ 400000 * x → nat_abs r ≤ 400000 * y → x + y ≡ m → nat_abs (s +ℤ (l +ℤ r)) ≤ 800000 * m
span_within s l r x y m h i j e = omega (arith, ints)

-- three values, each with its length, as the code reads them
record Read (v u w : ℤ) (m x y : ℕ) (s₁ s₂ l₁ l₂ r₁ r₂ : ℤ) : Type 0 where
  pub low : (nat_abs v ≤ 400000) × (nat_abs u ≤ 400000) × (nat_abs w ≤ 400000)
  pub short : (m < 200000) × (x < 200000) × (y < 200000)
  pub values : (s₁ ≡ to_z w32 (of_z w32 v)) × (l₁ ≡ to_z w32 (of_z w32 u)) × (r₁ ≡ to_z w32 (of_z w32 w))
  pub lengths : (s₂ ≡ pos m) × (l₂ ≡ pos x) × (r₂ ≡ pos y)

module _ (c : ℕ) (zs : List ℕ) (ws : List ℤ) (P : Places c zs) (V : Values 400000 c ws) (i k z : ℕ) (there : i < c) (U : Under c zs k z) where
  abbrev m : ℕ
  m = get_or zs (k + 1) 0 - get_or zs k 0

  abbrev x : ℕ
  x = get_or zs (k + 1) 0 - z

  abbrev y : ℕ
  y = z - get_or zs k 0

  made : (n : ℤ) (p : ℕ) → n ≡ get_or ws i (pos 0) *ℤ pos m +ℤ (get_or ws k (pos 0) *ℤ pos x +ℤ get_or ws (k + 1) (pos 0) *ℤ pos y) → Paired (line_of c zs ws) i z (record { sum = n; span = m; place = p })
  made n p e =
      let end = P.ends (k + 1) U.inside in
      let lo = U.above in
      let hi = U.below in
      let up = P.rises k U.inside in
      let b = span_within (get_or ws i (pos 0) *ℤ pos m) (get_or ws k (pos 0) *ℤ pos x) (get_or ws (k + 1) (pos 0) *ℤ pos y) x y m (times_within (get_or ws i (pos 0)) 400000 m (V i there)) (times_within (get_or ws k (pos 0)) 400000 x (V k (omega arith))) (times_within (get_or ws (k + 1) (pos 0)) 400000 y (V (k + 1) U.inside)) (omega arith) in
      record {
        ranged = record { some = omega arith; few = omega arith; within = subst (λ (v : ℤ). nat_abs v ≤ 800000 * m) (sym e) b };
        same = paired_is c zs ws P i k z m n U.inside lo hi refl e;
      }

  read_at : {s₁ s₂ l₁ l₂ r₁ r₂ : ℤ} → s₁ ≡ to_z w32 (of_z w32 (get_or ws i (pos 0))) → s₂ ≡ pos m → l₁ ≡ to_z w32 (of_z w32 (get_or ws k (pos 0))) → l₂ ≡ pos x
      → r₁ ≡ to_z w32 (of_z w32 (get_or ws (k + 1) (pos 0))) → r₂ ≡ pos y → Read (get_or ws i (pos 0)) (get_or ws k (pos 0)) (get_or ws (k + 1) (pos 0)) m x y s₁ s₂ l₁ l₂ r₁ r₂
  read_at e₁ e₂ f₁ f₂ g₁ g₂ =
      let end = P.ends (k + 1) U.inside in
      let hi = U.below in
      record {
        low = (V i there, V k (omega (arith, U.inside)), V (k + 1) U.inside);
        short = (omega arith, omega arith, omega arith);
        values = (e₁, f₁, g₁);
        lengths = (e₂, f₂, g₂);
      }

-- ---- as the code has the numbers
times : (r s v : ℤ) (m : ℕ) → nat_abs v ≤ 400000 → m < 200000 → r ≡ to_z w32 (of_z w32 v) → s ≡ pos m → to_z w64 (of_z w64 r) *ℤ to_z w64 (of_z w64 s) ≡ v *ℤ pos m
times r s v m h k e f =
    let a : to_z w64 (of_z w64 r) ≡ v = omega (arith, ints) in
    let b : to_z w64 (of_z w64 s) ≡ pos m = omega (arith, ints) in
    ap₂ (λ (x y : ℤ). x *ℤ y) a b

small : (v : ℤ) (m : ℕ) → nat_abs v ≤ 400000 → m < 200000 → nat_abs (v *ℤ pos m) ≤ 80000000000
small v m h k = omega (arith, times_within v 400000 m h)

times_fits : (r s v : ℤ) (m : ℕ) → nat_abs v ≤ 400000 → m < 200000 → r ≡ to_z w32 (of_z w32 v) → s ≡ pos m → SFits w64 (to_z w64 (of_z w64 r) *ℤ to_z w64 (of_z w64 s))
times_fits r s v m h k e f = let b = small v m h k in subst (SFits w64) (sym (times r s v m h k e f)) (omega (arith, ints))

module _ (s l r : ℤ) (h₁ : nat_abs s ≤ 80000000000) (h₂ : nat_abs l ≤ 80000000000) (h₃ : nat_abs r ≤ 80000000000) where
  two : to_z w64 (of_z w64 (to_z w64 (of_z w64 l) +ℤ to_z w64 (of_z w64 r))) ≡ l +ℤ r
  two = omega (arith, ints)

  two_fit : SFits w64 (to_z w64 (of_z w64 l) +ℤ to_z w64 (of_z w64 r))
  two_fit = omega (arith, ints)

  two_within : nat_abs (l +ℤ r) ≤ 160000000000
  two_within = omega (arith, ints)

  plus : (x : ℤ) → nat_abs x ≤ 160000000000 → to_z w64 (of_z w64 (to_z w64 (of_z w64 s) +ℤ x)) ≡ s +ℤ x
  plus x k = omega (arith, ints)

  plus_fits : (x : ℤ) → nat_abs x ≤ 160000000000 → SFits w64 (to_z w64 (of_z w64 s) +ℤ x)
  plus_fits x k = omega (arith, ints)

  three : to_z w64 (of_z w64 (to_z w64 (of_z w64 s) +ℤ to_z w64 (of_z w64 (to_z w64 (of_z w64 l) +ℤ to_z w64 (of_z w64 r))))) ≡ s +ℤ (l +ℤ r)
  three = ap (λ (z : ℤ). to_z w64 (of_z w64 (to_z w64 (of_z w64 s) +ℤ z))) two ∙ plus (l +ℤ r) two_within

  three_fit : SFits w64 (to_z w64 (of_z w64 s) +ℤ to_z w64 (of_z w64 (to_z w64 (of_z w64 l) +ℤ to_z w64 (of_z w64 r))))
  three_fit = subst (λ (z : ℤ). SFits w64 (to_z w64 (of_z w64 s) +ℤ z)) (sym two) (plus_fits (l +ℤ r) two_within)

module _ {v u w : ℤ} {m x y : ℕ} {s₁ s₂ l₁ l₂ r₁ r₂ : ℤ} (R : Read v u w m x y s₁ s₂ l₁ l₂ r₁ r₂) where
  abbrev L : ℤ
  L = to_z w64 (of_z w64 l₁) *ℤ to_z w64 (of_z w64 l₂)

  abbrev H : ℤ
  H = to_z w64 (of_z w64 r₁) *ℤ to_z w64 (of_z w64 r₂)

  left : L ≡ u *ℤ pos x
  left = times l₁ l₂ u x R.low.1 R.short.1 R.values.1 R.lengths.1

  right : H ≡ w *ℤ pos y
  right = times r₁ r₂ w y R.low.2 R.short.2 R.values.2 R.lengths.2

  here : to_z w64 (of_z w64 s₁) *ℤ to_z w64 (of_z w64 s₂) ≡ v *ℤ pos m
  here = times s₁ s₂ v m R.low.0 R.short.0 R.values.0 R.lengths.0

  a : nat_abs (v *ℤ pos m) ≤ 80000000000
  a = small v m R.low.0 R.short.0

  b : nat_abs (u *ℤ pos x) ≤ 80000000000
  b = small u x R.low.1 R.short.1

  d : nat_abs (w *ℤ pos y) ≤ 80000000000
  d = small w y R.low.2 R.short.2

  sum_fits : SFits w64 (to_z w64 (of_z w64 L) +ℤ to_z w64 (of_z w64 H))
  sum_fits = simp (left, right) (two_fit (v *ℤ pos m) (u *ℤ pos x) (w *ℤ pos y) a b d)

  all_fit : SFits w64 (to_z w64 (of_z w64 (to_z w64 (of_z w64 s₁) *ℤ to_z w64 (of_z w64 s₂))) +ℤ to_z w64 (of_z w64 (to_z w64 (of_z w64 L) +ℤ to_z w64 (of_z w64 H))))
  all_fit = simp (here, left, right) (three_fit (v *ℤ pos m) (u *ℤ pos x) (w *ℤ pos y) a b d)

  total : to_z w64 (of_z w64 (to_z w64 (of_z w64 (to_z w64 (of_z w64 s₁) *ℤ to_z w64 (of_z w64 s₂))) +ℤ to_z w64 (of_z w64 (to_z w64 (of_z w64 L) +ℤ to_z w64 (of_z w64 H))))) ≡ v *ℤ pos m +ℤ (u *ℤ pos x +ℤ w *ℤ pos y)
  total = simp (here, left, right) (three (v *ℤ pos m) (u *ℤ pos x) (w *ℤ pos y) a b d)

-- one value of a line that is held
pub part_fits : (d : OnGrid) (k m : ℕ) → k < d.grid.now.stations.count → m < 200000 → {r s : ℤ} → r ≡ to_z w32 (of_z w32 (get_or d.values.now k (pos 0))) → s ≡ pos m → SFits w64 (to_z w64 (of_z w64 r) *ℤ to_z w64 (of_z w64 s))
part_fits d k m h l {r} {s} e f = times_fits r s (get_or d.values.now k (pos 0)) m (d.low k h) l e f

-- one axle at station i of a line that is held, and the other at o
module _ (d : OnGrid) (i : ℕ) (o : Other) (there : i < d.grid.now.stations.count) (U : Under d.grid.now.stations.count d.grid.now.stations.places o.segment o.place) {s₁ s₂ l₁ l₂ r₁ r₂ : ℤ}
    (e₁ : s₁ ≡ to_z w32 (of_z w32 (get_or d.values.now i (pos 0)))) (e₂ : s₂ ≡ pos (get_or d.grid.now.stations.places (o.segment + 1) 0 - get_or d.grid.now.stations.places o.segment 0))
    (f₁ : l₁ ≡ to_z w32 (of_z w32 (get_or d.values.now o.segment (pos 0)))) (f₂ : l₂ ≡ pos (get_or d.grid.now.stations.places (o.segment + 1) 0 - o.place))
    (g₁ : r₁ ≡ to_z w32 (of_z w32 (get_or d.values.now (o.segment + 1) (pos 0)))) (g₂ : r₂ ≡ pos (o.place - get_or d.grid.now.stations.places o.segment 0))
  where
    abbrev s : Stations
    s = d.grid.now.stations

    abbrev v : ℕ → ℤ
    v j = get_or d.values.now j (pos 0)

    R : Read (v i) (v o.segment) (v (o.segment + 1)) (get_or s.places (o.segment + 1) 0 - get_or s.places o.segment 0) (get_or s.places (o.segment + 1) 0 - o.place) (o.place - get_or s.places o.segment 0) s₁ s₂ l₁ l₂ r₁ r₂
    R = read_at s.count s.places d.values.now s.placed d.low i o.segment o.place there U e₁ e₂ f₁ f₂ g₁ g₂

    pub others_fit : SFits w64 (to_z w64 (of_z w64 (to_z w64 (of_z w64 l₁) *ℤ to_z w64 (of_z w64 l₂))) +ℤ to_z w64 (of_z w64 (to_z w64 (of_z w64 r₁) *ℤ to_z w64 (of_z w64 r₂))))
    others_fit = sum_fits R

    pub sum_fits_all : SFits w64 (to_z w64 (of_z w64 (to_z w64 (of_z w64 s₁) *ℤ to_z w64 (of_z w64 s₂))) +ℤ to_z w64 (of_z w64 (to_z w64 (of_z w64 (to_z w64 (of_z w64 l₁) *ℤ to_z w64 (of_z w64 l₂))) +ℤ to_z w64 (of_z w64 (to_z w64 (of_z w64 r₁) *ℤ to_z w64 (of_z w64 r₂))))))
    sum_fits_all = all_fit R

    pub paired : (p : ℕ) → Paired (line_of s.count s.places d.values.now) i o.place (record {
      sum = to_z w64 (of_z w64 (to_z w64 (of_z w64 (to_z w64 (of_z w64 s₁) *ℤ to_z w64 (of_z w64 s₂))) +ℤ to_z w64 (of_z w64 (to_z w64 (of_z w64 (to_z w64 (of_z w64 l₁) *ℤ to_z w64 (of_z w64 l₂))) +ℤ to_z w64 (of_z w64 (to_z w64 (of_z w64 r₁) *ℤ to_z w64 (of_z w64 r₂)))))));
      span = get_or s.places (o.segment + 1) 0 - get_or s.places o.segment 0;
      place = p;
    })
    paired p = made s.count s.places d.values.now s.placed d.low i o.segment o.place there U _ p (total R)
