-- The greatest area of a segment over every loading: bounded, and reached where the ordinate is positive.
use Rattle.std.proofs.Common.{◌≡◌, ℕ, zero, suc, ◌+◌, ◌-◌, ◌*◌, ◌<◌, ◌≤◌, List, [], ◌∷◌, ℤ, pos, negsuc, ◌+ℤ◌, ◌*ℤ◌, nat_abs, ◌≤ℤ◌, refl, ap, ap₂, subst₂, ⊎_elim, le_refl, mul-le-mul_right, mul-le-mul, mul-le-mul_left, mul-zero, mul-add, mul_assoc, arith}
use native.Mathlib.Nat.{sub-zero}
use borrow.Author.Differences.{up, down, at_most_in, same_in, sum_is_lem}
use Rattle.std.proofs.lemmas.Int.{ints}
use Rattle.std.proofs.lemmas.Bool.{cases_lt}
use Rattle.algebra.specs.Frac.{◌≤F◌, ◌≈F◌, whole, ◌+F◌, ceil}
use Rattle.algebra.proofs.Frac.{trans, adds, refl_≤}
use Rattle.algebra.proofs.Round.{ceils, near}
use Rattle.lines.specs.Segments.{Stretch, Apart, Loading, height, area, loaded_area, where_positive, gain, rounded, sign_changes}
use Rattle.algebra.proofs.Ring.{var, ◌:+◌, ◌:*◌, differs}
use Rattle.algebra.proofs.IntLaws.{up_product, down_product}

-- the same sum over naturals, for a function of a place and of what is left behind it
abbrev natural : (ℕ → ℕ → ℕ) → ℕ → List Stretch → ℕ
natural F m [] = 0
natural F m (s ∷ l) = (s.to - s.from) * (F s.from (m - s.from) + F s.to (m - s.to)) + natural F m l

area_is : (v u : ℤ) (m : ℕ) (l : List Stretch) → up (area v u m l) + natural (λ x y. down v * y + down u * x) m l ≡ down (area v u m l) + natural (λ x y. up v * y + up u * x) m l
area_is v u m [] = refl
area_is v u m (s ∷ l) =
    let ρ = v ∷ u ∷ pos (s.to - s.from) ∷ pos (m - s.from) ∷ pos s.from ∷ pos (m - s.to) ∷ pos s.to ∷ [] in
    let e = var 2 :* ((var 0 :* var 3 :+ var 1 :* var 4) :+ (var 0 :* var 5 :+ var 1 :* var 6)) in
    omega (arith, area_is v u m l, differs ρ e, sum_is_lem (pos (s.to - s.from) *ℤ (height v u m s.from +ℤ height v u m s.to)) (area v u m l))

apart_le : (x m : ℕ) (l : List Stretch) → Apart x m l → x ≤ m
apart_le x m [] h = h
apart_le x m (s ∷ l) h = omega (arith, apart_le s.to m l h.2)

-- a potential Φ - Ψ that falls along the segment, and by at least K times the area of a stretch
module _ (K m : ℕ) (F G Φ Ψ : ℕ → ℕ → ℕ)
    (falls : (p s t : ℕ) → Φ (p + s) t + Ψ p (s + t) ≤ Φ p (s + t) + Ψ (p + s) t)
    (step : (p s t : ℕ) → K * (s * (F p (s + t) + F (p + s) t)) + (Φ (p + s) t + Ψ p (s + t)) ≤ Φ p (s + t) + Ψ (p + s) t + K * (s * (G p (s + t) + G (p + s) t))) where
  fall : (a b : ℕ) → a ≤ b → b ≤ m → Φ b (m - b) + Ψ a (m - a) ≤ Φ a (m - a) + Ψ b (m - b)
  fall a b h k =
      let e₁ : a + (b - a) ≡ b = omega arith in
      let e₂ : b - a + (m - b) ≡ m - a = omega arith in
      rw (e₁, e₂) at (falls a (b - a) (m - b))

  telescope : (a : ℕ) (l : List Stretch) → Apart a m l → K * natural F m l + (Φ m 0 + Ψ a (m - a)) ≤ Φ a (m - a) + Ψ m 0 + K * natural G m l
  telescope a [] h =
      let e : m - m ≡ 0 = omega arith in
      let f = rw e at (fall a m h (le_refl m)) in
      omega (arith, f)
  telescope a (s ∷ l) h =
      let p = s.from in
      let q = s.to in
      let far = apart_le q m l h.2 in
      let e₁ : p + (q - p) ≡ q = omega arith in
      let e₂ : q - p + (m - q) ≡ m - p = omega arith in
      let one = rw (e₁, e₂) at (step p (q - p) (m - q)) in
      let ih = telescope q l h.2 in
      let f = fall a p h.0 (omega arith) in
      omega (arith, one, ih, f)

-- the step of the mixed case: (A + α - B)² - (A - B - β)² is the product of difference and sum, and a negative square root is cut off at 0
quad : (A B α β : ℕ) → (α + β) * (2 * A + α) + (A - (B + β)) * (A - (B + β)) ≤ (A + α - B) * (A + α - B) + (α + β) * (2 * B + β)
quad A B α β =
    let y = A - (B + β) in
    let x = A + α - B in
    let w = B + β - A in
    ⊎_elim
    (λ h. ⊎_elim
    (λ k. let e₀ : y ≡ 0 = omega arith in omega (arith, ap₂ (λ (i j : ℕ). i * j) e₀ e₀, mul-le-mul_left {m = 2 * A + α} {n = 2 * B + β} (α + β) (omega arith)))
    (λ k.
    let e₀ : y ≡ 0 = omega arith in
    let e₁ : A + α ≡ B + x = omega arith in
    let e₂ : B + β ≡ A + w = omega arith in
    let e₃ : α + β ≡ x + w = omega arith in
    omega (arith, ap₂ (λ (i j : ℕ). i * j) e₀ e₀, ap (λ i. (α + β) * i) e₁, ap (λ i. (α + β) * i) e₂, ap (λ i. i * x) e₃, ap (λ i. i * w) e₃))
    (cases_lt (A + α) B))
    (λ h.
    let e₁ : A ≡ B + β + y = omega arith in
    let e₂ : x ≡ y + (β + α) = omega arith in
    omega (arith, ap (λ i. (α + β) * i) e₁, ap₂ (λ (i j : ℕ). i * j) e₂ e₂))
    (cases_lt A (B + β))

-- from naturals to fractions
finish : (d K n M : ℕ) (a : ℤ) → K * up a ≤ K * down a + n * M → ((pos d *ℤ a) *ℤ pos K) ≤ℤ (pos (d * n) *ℤ pos M)
finish d K n M a h = let h' = mul-le-mul_left d h in at_most_in _ _ (simp (up_product, down_product) (omega (arith, h')))

-- the square of a difference that is cut off at 0 falls as the first number falls and the second grows
squares : (a b c d : ℕ) → a ≤ c → d ≤ b → (a - b) * (a - b) ≤ (c - d) * (c - d)
squares a b c d h k = let l : a - b ≤ c - d = omega arith in mul-le-mul l l

module _ (c e : ℕ) where
  -- a fall from c at 0 to -e at the end
  abbrev high : ℕ → ℕ → ℕ
  high x y = (c * y - e * x) * (c * y - e * x)

  high_falls : (p s t : ℕ) → high (p + s) t ≤ high p (s + t)
  high_falls p s t = squares (c * t) (e * (p + s)) (c * (s + t)) (e * p) (omega arith) (omega arith)

  high_step : (p s t : ℕ) → (c + e) * (s * (c * (s + t) + c * t)) + high (p + s) t ≤ high p (s + t) + (c + e) * (s * (e * p + e * (p + s)))
  high_step p s t =
      let e₁ : c * t + c * s ≡ c * (s + t) = omega arith in
      let e₂ : e * p + e * s ≡ e * (p + s) = omega arith in
      let q = rw (e₁, e₂) at (quad (c * t) (e * p) (c * s) (e * s)) in
      omega (arith, q)

-- the mixed cases: the line falls through 0, or rises through it
falling : (c e m : ℕ) (l : List Stretch) → Apart 0 m l → (c + e) * natural (λ x y. c * y + 0 * x) m l ≤ (c + e) * natural (λ x y. 0 * y + e * x) m l + (c * m) * (c * m)
falling c e m l h =
    let t = telescope (c + e) m (λ x y. c * y + 0 * x) (λ x y. 0 * y + e * x) (high c e) (λ x y. 0)
    (λ p s t. omega (arith, high_falls c e p s t)) (λ p s t. omega (arith, high_step c e p s t)) 0 l h in
    let t' = rw (sub-zero m) at t in
    let z : c * m - e * 0 ≡ c * m = omega arith in
    let t'' = rw z at t' in
    omega (arith, t'')

rising : (c e m : ℕ) (l : List Stretch) → Apart 0 m l → (e + c) * natural (λ x y. 0 * y + c * x) m l ≤ (e + c) * natural (λ x y. e * y + 0 * x) m l + (c * m) * (c * m)
rising c e m l h =
    let t = telescope (e + c) m (λ x y. 0 * y + c * x) (λ x y. e * y + 0 * x) (λ x y. 0) (λ x y. high c e y x)
    (λ p s t. let f : high c e (s + t) p ≤ high c e t (p + s) = squares (c * p) (e * (s + t)) (c * (p + s)) (e * t) (omega arith) (omega arith) in omega (arith, f))
    (λ p s t.
    let e₁ : c * p + c * s ≡ c * (p + s) = omega arith in
    let e₂ : e * t + e * s ≡ e * (s + t) = omega arith in
    let q = rw (e₁, e₂) at (quad (c * p) (e * t) (c * s) (e * s)) in
    omega (arith, q))
    0 l h in
    let z : c * m - e * 0 ≡ c * m = omega arith in
    let t'' = rw z at t in
    omega (arith, t'')

upright : (c e m : ℕ) (l : List Stretch) → Apart 0 m l → natural (λ x y. c * y + e * x) m l ≤ natural (λ x y. 0 * y + 0 * x) m l + (c + e) * (m * m)
upright c e m l h =
    let t = telescope 1 m (λ x y. c * y + e * x) (λ x y. 0 * y + 0 * x) (λ x y. 0) (λ x y. x * (c * (x + y) + (c * y + e * x)))
    (λ p s t. omega arith) (λ p s t. omega arith) 0 l h in
    omega (arith, t)

hanging : (c e m : ℕ) (l : List Stretch) → natural (λ x y. 0 * y + 0 * x) m l ≤ natural (λ x y. c * y + e * x) m l
hanging c e m [] = omega arith
hanging c e m (s ∷ l) = omega (arith, hanging c e m l)

cross_bound : (d : ℕ) (v u : ℤ) (m : ℕ) (l : List Stretch) → Apart 0 m l → ((pos d *ℤ area v u m l) *ℤ pos (gain d v u).den) ≤ℤ ((gain d v u).num *ℤ pos (m * m))
cross_bound d (pos c) (pos e) m l h = finish d 1 (c + e) (m * m) _ (omega (arith, area_is (pos c) (pos e) m l, upright c e m l h))
cross_bound d (pos c) (negsuc e) m l h = finish d (c + suc e) (c * c) (m * m) _ (omega (arith, ap (λ i. (c + suc e) * i) (area_is (pos c) (negsuc e) m l), falling c (suc e) m l h))
cross_bound d (negsuc e) (pos c) m l h = finish d (suc e + c) (c * c) (m * m) _ (omega (arith, ap (λ i. (suc e + c) * i) (area_is (negsuc e) (pos c) m l), rising c (suc e) m l h))
cross_bound d (negsuc c) (negsuc e) m l h =
    let f : 1 * up (area (negsuc c) (negsuc e) m l) ≤ 1 * down (area (negsuc c) (negsuc e) m l) + 0 * (m * m) = omega (arith, area_is (negsuc c) (negsuc e) m l, hanging (suc c) (suc e) m l) in
    rw mul-zero at (finish d 1 0 (m * m) _ f)

area_bound : (d : ℕ) (v u : ℤ) (x : Loading) → loaded_area d v u x ≤F gain d v u
area_bound d v u x = record { cross = cross_bound d v u x.parts x.stretches x.apart }

-- ---- reached
finish_same : (d K n M : ℕ) (a : ℤ) → K * up a ≡ K * down a + n * M → (pos d *ℤ a) *ℤ pos K ≡ pos (d * n) *ℤ pos M
finish_same d K n M a h = let h' = ap (λ i. d * i) h in same_in _ _ (simp (up_product, down_product) (omega (arith, h')))

abbrev stretch : ℕ → ℕ → List Stretch
stretch x y = record { from = x; to = y } ∷ []

falls_to : (d c e : ℕ) → (pos d *ℤ area (pos c) (negsuc e) (c + suc e) (stretch 0 c)) *ℤ pos (c + suc e) ≡ pos (d * (c * c)) *ℤ pos ((c + suc e) * (c + suc e))
falls_to d c e =
    let m = c + suc e in
    let e₁ : m - c ≡ suc e = omega arith in
    let A = area (pos c) (negsuc e) m (stretch 0 c) in
    let n₁ : natural (λ x y. 0 * y + suc e * x) m (stretch 0 c) ≡ c * (suc e * c) = simp (sub-zero, e₁) (omega arith) in
    let n₂ : natural (λ x y. c * y + 0 * x) m (stretch 0 c) ≡ c * (c * m + c * suc e) = simp (sub-zero, e₁) (omega arith) in
    let a = subst₂ (λ (x y : ℕ). up A + x ≡ down A + y) n₁ n₂ (area_is (pos c) (negsuc e) m (stretch 0 c)) in
    finish_same d m (c * c) (m * m) _ (omega (arith, ap (λ i. m * i) a))

rises_to : (d e c : ℕ) → (pos d *ℤ area (negsuc e) (pos c) (suc e + c) (stretch (suc e) (suc e + c))) *ℤ pos (suc e + c) ≡ pos (d * (c * c)) *ℤ pos ((suc e + c) * (suc e + c))
rises_to d e c =
    let m = suc e + c in
    let e₁ : m - suc e ≡ c = omega arith in
    let e₂ : m - m ≡ 0 = omega arith in
    let A = area (negsuc e) (pos c) m (stretch (suc e) m) in
    let n₁ : natural (λ x y. suc e * y + 0 * x) m (stretch (suc e) m) ≡ c * (suc e * c) = simp (e₁, e₂) (omega arith) in
    let n₂ : natural (λ x y. 0 * y + c * x) m (stretch (suc e) m) ≡ c * (c * suc e + c * m) = simp (e₁, e₂) (omega arith) in
    let a = subst₂ (λ (x y : ℕ). up A + x ≡ down A + y) n₁ n₂ (area_is (negsuc e) (pos c) m (stretch (suc e) m)) in
    finish_same d m (c * c) (m * m) _ (omega (arith, ap (λ i. m * i) a))

area_reached : (d : ℕ) (v u : ℤ) → loaded_area d v u (where_positive v u) ≈F gain d v u
area_reached d (pos zero) (pos zero) = ap pos (omega arith)
area_reached d (pos zero) (pos (suc e)) = ap pos (omega arith)
area_reached d (pos (suc c)) (pos e) = ap pos (omega arith)
area_reached d (pos zero) (negsuc e) = ap pos (omega arith)
area_reached d (pos (suc c)) (negsuc e) = falls_to d (suc c) e
area_reached d (negsuc e) (pos zero) = ap pos (omega arith)
area_reached d (negsuc e) (pos (suc c)) = rises_to d e (suc c)
area_reached d (negsuc c) (negsuc e) = ap pos (omega arith)

-- ---- rounded up
rounds : (d : ℕ) (v u : ℤ) → gain d v u ≤F whole (pos (rounded d v u))
rounds d (pos c) (pos e) = refl_≤ _
rounds d (pos c) (negsuc e) = let n = near (d * (c * c)) (c + suc e) (omega arith) in record { cross = omega (arith, ints, n) }
rounds d (negsuc e) (pos c) = let n = near (d * (c * c)) (suc e + c) (omega arith) in record { cross = omega (arith, ints, n) }
rounds d (negsuc c) (negsuc e) = refl_≤ _

-- nothing is rounded but at a sign change
rounds_near : (d : ℕ) (v u : ℤ) → whole (pos (rounded d v u)) ≤F gain d v u +F whole (pos (sign_changes v u))
rounds_near d (pos c) (pos e) = record { cross = omega (arith, ints) }
rounds_near d (pos zero) (negsuc e) = record { cross = let n = mul-le-mul_right (0 + suc e) ((ceils (d * (0 * 0)) (0 + suc e) 0 (omega arith)).1 (omega arith)) in omega (arith, ints, n) }
rounds_near d (pos (suc c)) (negsuc e) = let n = near (d * (suc c * suc c)) (suc c + suc e) (omega arith) in record { cross = omega (arith, ints, n) }
rounds_near d (negsuc e) (pos zero) = record { cross = let n = mul-le-mul_right (suc e + 0) ((ceils (d * (0 * 0)) (suc e + 0) 0 (omega arith)).1 (omega arith)) in omega (arith, ints, n) }
rounds_near d (negsuc e) (pos (suc c)) = let n = near (d * (suc c * suc c)) (suc e + suc c) (omega arith) in record { cross = omega (arith, ints, n) }
rounds_near d (negsuc c) (negsuc e) = record { cross = omega (arith, ints) }

-- whatever is loaded, its area is at most what is counted
pub segment_bound : (d : ℕ) (v u : ℤ) (x : Loading) → loaded_area d v u x ≤F whole (pos (rounded d v u))
segment_bound d v u x = trans (area_bound d v u x) (rounds d v u)

-- loading where the ordinate is positive comes within one for a sign change
pub segment_near : (d : ℕ) (v u : ℤ) → whole (pos (rounded d v u)) ≤F loaded_area d v u (where_positive v u) +F whole (pos (sign_changes v u))
segment_near d v u =
    let e = area_reached d v u in
    let f : gain d v u ≤F loaded_area d v u (where_positive v u) = record { cross = omega (arith, ints) } in
    trans (rounds_near d v u) (adds f (refl_≤ (whole (pos (sign_changes v u)))))

-- ---- size, and the segment turned end for end
peak_within : (b d c w : ℕ) → c ≤ b → c ≤ w → 0 < w → ceil (d * (c * c)) w ≤ d * b
peak_within b d c w h k p =
    let a : d * (c * c) ≤ d * (b * w) = mul-le-mul_left d (mul-le-mul h k) in
    (ceils (d * (c * c)) w (d * b) p).1 (omega (arith, mul_assoc d b w))

-- none of the ordinates above b
pub segment_within : (b d : ℕ) (v u : ℤ) → nat_abs v ≤ b → nat_abs u ≤ b → rounded d v u ≤ d * b + d * b
segment_within b d (pos c) (pos e) h k = omega (arith, mul-le-mul_left d h, mul-le-mul_left d k, mul-add d c e)
segment_within b d (pos c) (negsuc e) h k = omega (arith, peak_within b d c (c + suc e) h (omega arith) (omega arith))
segment_within b d (negsuc e) (pos c) h k = omega (arith, peak_within b d c (suc e + c) k (omega arith) (omega arith))
segment_within b d (negsuc c) (negsuc e) h k = omega arith

pub segment_turned : (d : ℕ) (v u : ℤ) → rounded d v u ≡ rounded d u v
segment_turned d (pos c) (pos e) = omega arith
segment_turned d (pos c) (negsuc e) = ap (ceil (d * (c * c))) (omega arith)
segment_turned d (negsuc e) (pos c) = ap (ceil (d * (c * c))) (omega arith)
segment_turned d (negsuc c) (negsuc e) = refl
