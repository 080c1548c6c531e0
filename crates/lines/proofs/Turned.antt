-- Turning a line end for end keeps T.
use Rattle.std.proofs.Common.{◌≡◌, ℕ, ◌+◌, ◌-◌, ◌*◌, ◌<◌, ◌≤◌, ℤ, pos, ◌+ℤ◌, ◌*ℤ◌, Option, sym, ap, ◌∙◌, subst, ap₂, arith}
use lib.IntN.{+ℤ_comm}
use Rattle.algebra.specs.Frac.{Frac, Same, over}
use Rattle.algebra.proofs.Frac.{trans, scales, same_trans, same_adds, swapped}
use Rattle.lines.specs.Lines.{Line, Rising, last, on, under, value_at, axles, IsTandem, Holds, reversed}
use Rattle.lines.proofs.Values.{place_up, held, value_on}

minus_times : (x y b : ℕ) → y ≤ x → (x - y) * b + y * b ≡ x * b
minus_times x y b h = let e : x - y + y ≡ x = omega arith in omega (arith, ap (λ (i : ℕ). i * b) e)

module _ (d : Line) (w : Rising d) where
  pub rev_rising : Rising (reversed d)
  rev_rising = record {
    some = w.some;
    begins = let s : d.count - 1 - 0 ≡ d.count - 1 = omega arith in omega (arith, ap d.place s);
    rises = λ k h.
        let m = d.count - 1 - (k + 1) in
        let s : m + 1 ≡ d.count - 1 - k = omega arith in
        omega (arith, ap d.place s, w.rises m (omega arith), place_up d w (d.count - 1 - k) (d.count - 1) (omega arith) (omega (arith, w.some)));
  }

  rev_last : last (reversed d) ≡ last d
  rev_last = let s : d.count - 1 - (d.count - 1) ≡ 0 = omega arith in omega (arith, ap d.place s, w.begins)

  module _ (a b : ℕ) (p : 0 < b) (h : a ≤ last d * b) where
    pub value_turned : Same (value_at (reversed d) a b) (value_at d (last d * b - a) b)
    value_turned =
        let x = last d * b - a in
        let i = under d x b (d.count - 2) in
        let H = held d w x b (omega arith) in
        let k = d.count - 2 - i in
        let s₁ : d.count - 1 - k ≡ i + 1 = omega (arith, H.inside) in
        let s₂ : d.count - 1 - (k + 1) ≡ i = omega (arith, H.inside) in
        let z₁ = ap d.place s₁ in
        let z₂ = ap d.place s₂ in
        let v₁ = ap d.value s₁ in
        let v₂ = ap d.value s₂ in
        let l₁ = place_up d w (i + 1) (d.count - 1) (omega (arith, H.inside)) (omega (arith, H.inside)) in
        let l₂ = place_up d w i (d.count - 1) (omega (arith, H.inside)) (omega (arith, H.inside)) in
        let up = w.rises i H.inside in
        let Z₁ : (reversed d).place k ≡ last d - d.place (i + 1) = omega arith in
        let Z₂ : (reversed d).place (k + 1) ≡ last d - d.place i = omega arith in
        let m₁ = minus_times (last d) (d.place (i + 1)) b l₁ in
        let m₂ = minus_times (last d) (d.place i) b l₂ in
        let y₁ = ap (λ (j : ℕ). j * b) Z₁ in
        let y₂ = ap (λ (j : ℕ). j * b) Z₂ in
        let K : Holds (reversed d) k a b = record { inside = omega (arith, H.inside); above = omega (arith, H.below); below = omega (arith, H.above) } in
        let q₁ : (reversed d).place (k + 1) * b - a ≡ x - d.place i * b = omega (arith, H.above) in
        let q₂ : a - (reversed d).place k * b ≡ d.place (i + 1) * b - x = omega (arith, H.below) in
        let q₃ : (reversed d).place (k + 1) - (reversed d).place k ≡ d.place (i + 1) - d.place i = omega arith in
        let n : d.value (d.count - 1 - k) *ℤ pos ((reversed d).place (k + 1) * b - a) +ℤ d.value (d.count - 1 - (k + 1)) *ℤ pos (a - (reversed d).place k * b)
        ≡ d.value i *ℤ pos (d.place (i + 1) * b - x) +ℤ d.value (i + 1) *ℤ pos (x - d.place i * b)
        = ap₂ (λ (f g : ℤ). f +ℤ g) (ap₂ (λ (v : ℤ) (j : ℕ). v *ℤ pos j) v₁ q₁) (ap₂ (λ (v : ℤ) (j : ℕ). v *ℤ pos j) v₂ q₂)
        ∙ +ℤ_comm (d.value (i + 1) *ℤ pos (x - d.place i * b)) (d.value i *ℤ pos (d.place (i + 1) * b - x)) in
        let e : on (reversed d) k a b ≡ on d i x b = ap₂ (λ (f : ℤ) (j : ℕ). over f (b * j)) n q₃ in
        subst (λ (f : Frac). Same (value_at (reversed d) a b) f) e (value_on (reversed d) rev_rising a b p k K)

  -- the tandem that stands as far from the other end
  pub axles_turned : (a b : ℕ) → 0 < b → a + 1200 * b ≤ last d * b → Same (axles (reversed d) a b) (axles d (last d * b - a - 1200 * b) b)
  axles_turned a b p h =
      let x = last d * b - a - 1200 * b in
      let s₁ : last d * b - a ≡ x + 1200 * b = omega arith in
      let s₂ : last d * b - (a + 1200 * b) ≡ x = omega arith in
      let v₁ = subst (λ (z : ℕ). Same (value_at (reversed d) a b) (value_at d z b)) s₁ (value_turned a b p (omega arith)) in
      let v₂ = subst (λ (z : ℕ). Same (value_at (reversed d) (a + 1200 * b) b) (value_at d z b)) s₂ (value_turned (a + 1200 * b) b p h) in
      same_trans _ _ _ (same_adds _ _ _ _ v₁ v₂) (swapped (value_at d (x + 1200 * b) b) (value_at d x b))

  pub same_t : (t u : ℕ) (p q : Option ℕ) → IsTandem d t p → IsTandem (reversed d) u q → t ≡ u
  same_t t u p q g h =
      let up : t ≤ u = g.least u (λ a b S.
      let x = last d * b - a - 1200 * b in
      let f : x + 1200 * b ≤ last d * b = omega (arith, S.fits) in
      let s : last d * b - x - 1200 * b ≡ a = omega (arith, S.fits) in
      let m = axles_turned x b S.some f in
      let m' = subst (λ (z : ℕ). Same (axles (reversed d) x b) (axles d z b)) s m in
      trans (scales 10000 _ _ m'.1) (h.bound x b (record { some = S.some; fits = subst (λ (z : ℕ). x + 1200 * b ≤ z * b) (sym rev_last) f }))) in
      let down : u ≤ t = h.least t (λ a b S.
      let x = last d * b - a - 1200 * b in
      let f : a + 1200 * b ≤ last d * b = subst (λ (z : ℕ). a + 1200 * b ≤ z * b) rev_last S.fits in
      trans (scales 10000 _ _ (axles_turned a b S.some f).0) (g.bound x b (record { some = S.some; fits = omega arith }))) in
      omega arith
