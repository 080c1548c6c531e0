-- On a lawful surface A and T stay low, and so do the factors.
use Rattle.std.proofs.Common.{◌≡◌, ℕ, ◌+◌, ◌-◌, ◌*◌, ◌<◌, ◌≤◌, max, true, leb, get_or, ℤ, pos, negsuc, ◌+ℤ◌, ◌*ℤ◌, nat_abs, ◌≤ℤ◌, sym, ap, ◌∙◌, subst, ⊎_elim, mul_comm, add-mul, arith}
use Rattle.std.proofs.lemmas.Int.{ints}
use Rattle.std.proofs.lemmas.Bool.{cases_lt, and_parts, leb-true}
use Rattle.algebra.specs.Frac.{◌≤F◌, whole, ◌+F◌}
use Rattle.algebra.proofs.Frac.{trans, adds, scales}
use Rattle.algebra.proofs.IntLaws.{*ℤ-mono}
use Rattle.surface.specs.Shape.{Shape, Lawful}
use Rattle.model.specs.Lanes.{breadth, wheels}
use Rattle.model.specs.Weights.{tandem_factor, uniform_factor}
use Rattle.model.specs.declared.owners.Owner.{Owner}
use Rattle.model.specs.declared.owners.Owner.TheVariants.{Remaining, Lane1, Lane2, Lane3, Other}
use Rattle.model.specs.declared.tandems.Tandem.{Tandem}
use Rattle.model.specs.declared.weights.Factors.{Factors}
use Rattle.model.proofs.Tables.{lane_range, wheel_inside}
use Rattle.lines.specs.Areas.{row, area_of}
use Rattle.lines.specs.Axles.{wheel_sum, axle_line, LaneTandem}
use Rattle.lines.specs.Lines.{Line, Rising, under, last, value_at}
use Rattle.lines.proofs.Areas.{area_small}
use Rattle.lines.proofs.Cells.{wide}
use Rattle.lines.proofs.Lanes.{rises}
use Rattle.lines.proofs.Values.{held}
use Rattle.placing.specs.Loaded.{most_area, most_top}
use Rattle.card.specs.Bounds.{in_range, in_bounds}
use Rattle.statement.specs.Effects.{lane_width, on_deck}
use Rattle.statement.specs.Figures.{ListsLow}

-- ---- areas
pub area_low : (s : Shape) → Lawful s → (j : ℕ) → j < s.slices → area_of s j ≤ most_area
area_low s w j h =
    let small = area_small (row s j) (record { some = w.some; begins = w.begins; rises = w.rises }) (λ k l. w.within j k h l) (s.stations - 1) (omega (arith, w.some)) in
    let end = w.ends (s.stations - 1) (omega (arith, w.some)) in
    omega (arith, small, end)

-- ---- tandems
below_abs : (z : ℤ) (n : ℕ) → nat_abs z ≤ n → z ≤ℤ pos n
below_abs (pos c) n h = omega (arith, ints)
below_abs (negsuc c) n h = omega (arith, ints)

four_low : (a b c d : ℤ) → a ≤ℤ pos 100000 → b ≤ℤ pos 100000 → c ≤ℤ pos 100000 → d ≤ℤ pos 100000 → (a +ℤ (b +ℤ (c +ℤ (d +ℤ pos 0)))) ≤ℤ pos 400000
four_low a b c d e f g h = omega (arith, ints)

wheels_low : (s : Shape) → Lawful s → (a l k : ℕ) → 54 ≤ l → a + l ≤ s.slices → k < s.stations → wheel_sum s a l k ≤ℤ pos 400000
wheels_low s w a l k lo fits h =
    let at : (i : ℕ) → i < 4 → s.ordinate (a + get_or (wheels l) i 0) k ≤ℤ pos 100000 =
    λ i lt. below_abs _ 100000 (w.within _ k (omega (arith, wheel_inside l i lo lt)) h) in
    four_low _ _ _ _ (at 0 (omega arith)) (at 1 (omega arith)) (at 2 (omega arith)) (at 3 (omega arith))

mix_low : (v u : ℤ) (x y m : ℕ) → v ≤ℤ pos m → u ≤ℤ pos m → (v *ℤ pos x +ℤ u *ℤ pos y) ≤ℤ (pos m *ℤ pos x +ℤ pos m *ℤ pos y)
mix_low v u x y m h k = omega (arith, ints, *ℤ-mono x v (pos m) h, *ℤ-mono y u (pos m) k)

value_low : (d : Line) → Rising d → (m : ℕ) → ((k : ℕ) → k < d.count → d.value k ≤ℤ pos m) → (a b : ℕ) → 0 < b → a ≤ last d * b → value_at d a b ≤F whole (pos m)
value_low d w m all a b p le =
    let i = under d a b (d.count - 2) in
    let h = held d w a b le in
    let n = wide (d.place i) (d.place (i + 1)) b p (w.rises i h.inside) in
    let x = d.place (i + 1) * b - a in
    let y = a - d.place i * b in
    let e : x + y ≡ b * (d.place (i + 1) - d.place i) = parts (d.place (i + 1)) (d.place i) a b (w.rises i h.inside) h.above h.below in
    let mix = mix_low (d.value i) (d.value (i + 1)) x y m (all i (omega (arith, h.inside))) (all (i + 1) h.inside) in
    let t : m * x + m * y ≡ m * max 1 (b * (d.place (i + 1) - d.place i)) = spread x y m ∙ ap (λ z. m * z) (e ∙ sym n) in
    record { cross = closed (d.value i *ℤ pos x +ℤ d.value (i + 1) *ℤ pos y) (m * x) (m * y) (m * max 1 (b * (d.place (i + 1) - d.place i))) mix t }
  where
    parts : (q r a b : ℕ) → r < q → r * b ≤ a → a ≤ q * b → (q * b - a) + (a - r * b) ≡ b * (q - r)
    parts q r a b lt lo hi =
        let e = q - r in
        let s : q ≡ r + e = omega arith in
        let m : q * b ≡ r * b + e * b = ap (λ z. z * b) s ∙ add-mul r e b in
        let n : e * b ≡ b * e = mul_comm e b in
        omega (arith, m, n)

    spread : (x y m : ℕ) → m * x + m * y ≡ m * (x + y)
    spread x y m = omega arith

    closed : (z : ℤ) (f g k : ℕ) → z ≤ℤ (pos f +ℤ pos g) → f + g ≡ k → (z *ℤ pos 1) ≤ℤ pos k
    closed z f g k h e = omega (arith, ints)

twice_low : (m : ℕ) → (whole (pos m) +F whole (pos m)) ≤F whole (pos (2 * m))
twice_low m = record { cross = omega (arith, ints) }

pub top_low : (s : Shape) → Lawful s → (a l : ℕ) (t : Tandem) → 54 ≤ l → a + l ≤ s.slices → LaneTandem s a l t → t.t ≤ most_top
top_low s w a l t lo fits h = h.least most_top (λ x b st.
    let d = axle_line s a l in
    let v = value_low d (rises s w a l) 400000 (λ k n. wheels_low s w a l k lo fits n) in
    trans (scales 10000 _ _ (trans (adds (v x b st.some (omega (arith, st.fits))) (v (x + 1200 * b) b st.some st.fits)) (twice_low 400000)))
    (record { cross = omega (arith, ints) }))

-- ---- factors
range_top : (lo x : ℕ) → in_range lo 200 x ≡ true → x ≤ 200
range_top lo x e = leb-true x 200 (and_parts (leb lo x) _ e).1

pub record FactorsLow (f : Factors) : Type 0 where
  pub tandem : (p : Owner) → tandem_factor f p ≤ 200
  pub uniform : (p : Owner) → uniform_factor f p ≤ 200

pub factors_low : (f : Factors) → in_bounds 40 40 f ≡ true → FactorsLow f
unfolding in_bounds
factors_low f e =
    let p₁ = and_parts (in_range 40 200 f.tandem1) _ e in
    let p₂ = and_parts (in_range 0 200 f.tandem2) _ p₁.1 in
    let p₃ = and_parts (in_range 0 200 f.tandem3) _ p₂.1 in
    let p₄ = and_parts (in_range 40 200 f.uniform1) _ p₃.1 in
    let p₅ = and_parts (in_range 40 200 f.uniform2) _ p₄.1 in
    let p₆ = and_parts (in_range 40 200 f.uniform3) _ p₅.1 in
    let p₇ = and_parts (in_range 40 200 f.others) _ p₆.1 in
    record {
      tandem = tandems (range_top 40 _ p₁.0) (range_top 0 _ p₂.0) (range_top 0 _ p₃.0);
      uniform = uniforms (range_top 40 _ p₄.0) (range_top 40 _ p₅.0) (range_top 40 _ p₆.0) (range_top 40 _ p₇.0) (range_top 0 _ p₇.1);
    }
  where
    tandems : f.tandem1 ≤ 200 → f.tandem2 ≤ 200 → f.tandem3 ≤ 200 → (p : Owner) → tandem_factor f p ≤ 200
    tandems a b c Remaining = omega arith
    tandems a b c Lane1 = a
    tandems a b c Lane2 = b
    tandems a b c Lane3 = c
    tandems a b c Other = omega arith

    uniforms : f.uniform1 ≤ 200 → f.uniform2 ≤ 200 → f.uniform3 ≤ 200 → f.others ≤ 200 → f.remaining ≤ 200 → (p : Owner) → uniform_factor f p ≤ 200
    uniforms a b c o r Remaining = r
    uniforms a b c o r Lane1 = a
    uniforms a b c o r Lane2 = b
    uniforms a b c o r Lane3 = c
    uniforms a b c o r Other = o

-- ---- together
pub lists_low : ListsLow
lists_low g lawful fit bounds areas areas' tandems tandems' a t =
    let k = g.kerbs in
    let p = and_parts (leb 30 k.width) _ fit in
    let q = and_parts (leb k.width 150) _ p.1 in
    let narrow = leb-true k.width 150 q.0 in
    let deck = leb-true (k.first + breadth k) g.surface.slices q.1 in
    let range = lane_range k.width in
    let low = factors_low g.factors bounds in
    record {
      few = omega (arith, narrow);
      wide = omega (arith, range);
      narrow = range.1;
      areas = λ j h. subst (λ x. x ≤ most_area) (sym (a.areas j h)) (area_low g.surface lawful (on_deck g j) (omega (arith, deck)));
      tops = λ j h. ⊎_elim
          (λ (m : breadth k < j + lane_width g). subst (λ (x : Tandem). x.t ≤ most_top) (sym (t.rest j h m)) (omega arith))
          (λ (m : j + lane_width g ≤ breadth k). top_low g.surface lawful (on_deck g j) (lane_width g) _ range.0 (omega (arith, deck)) (t.starts j m))
          (cases_lt (breadth k) (j + lane_width g));
      tandem_factors = low.tandem;
      uniform_factors = low.uniform;
    }
