-- A of a slice bounds every loading, comes near the loading where the ordinate is positive, and is kept by both turns.
use Rattle.std.proofs.Common.{◌≡◌, ℕ, zero, suc, ◌+◌, ◌-◌, ◌*◌, ◌<◌, ◌≤◌, ℤ, nat_abs, sym, refl, ap, ◌∙◌, ap₂, add-mul, arith}
use Rattle.algebra.proofs.Sums.{total_bound, total_near, total_cong, total_reverse}
use Rattle.surface.specs.Shape.{end_for_end}
use Rattle.surface.specs.Turns.{place_rises}
use Rattle.lines.specs.Segments.{rounded}
use Rattle.lines.specs.Lines.{Line, Rising, Agree}
use Rattle.lines.specs.Areas.{row, segment_length, area_to, area_of}
use Rattle.lines.specs.Facts.{AreasStand, AreaSideForSide, AreaEndForEnd}
use Rattle.lines.proofs.Segments.{segment_bound, segment_near, segment_within, segment_turned}

-- no ordinate of the row is above b
pub area_within : (b : ℕ) (d : Line) → Rising d → ((k : ℕ) → k < d.count → nat_abs (d.value k) ≤ b) → (n : ℕ) → n < d.count → area_to d n ≤ d.place n * b + d.place n * b
area_within b d w v zero k = omega arith
area_within b d w v (suc n) k =
    let e : d.place (n + 1) ≡ d.place (suc n) = ap d.place (omega arith) in
    let up = w.rises n (omega arith) in
    let s : d.place n + segment_length d n ≡ d.place (suc n) = omega arith in
    let m : d.place n * b + segment_length d n * b ≡ d.place (suc n) * b = sym (add-mul (d.place n) (segment_length d n) b) ∙ ap (λ (x : ℕ). x * b) s in
    omega (
      arith,
      area_within b d w v n (omega arith),
      segment_within b (segment_length d n) (d.value n) (d.value (n + 1)) (v n (omega arith)) (v (n + 1) (omega arith)),
    )

pub area_small : (d : Line) → Rising d → ((k : ℕ) → k < d.count → nat_abs (d.value k) ≤ 100000) → (n : ℕ) → n < d.count → area_to d n ≤ 200000 * d.place n
area_small d w v n k = omega (arith, area_within 100000 d w v n k)

pub is_area : AreasStand
is_area s j = record {
  value = refl;
  bound = λ f. total_bound (s.stations - 1) _ _ (λ k i. segment_bound (segment_length (row s j) k) (s.ordinate j k) (s.ordinate j (k + 1)) (f k));
  near = total_near (s.stations - 1) _ _ _ (λ k i. segment_near (segment_length (row s j) k) (s.ordinate j k) (s.ordinate j (k + 1)));
}

-- rows with the same stations
pub area_same : (d e : Line) → Agree d e → (n : ℕ) → n < d.count → area_to d n ≡ area_to e n
area_same d e w n h = total_cong n _ _ (λ k i.
    let z₁ = w.place k (omega arith) in
    let z₂ = w.place (k + 1) (omega arith) in
    let l : segment_length d k ≡ segment_length e k = omega arith in
    ap₂ (λ (v u : ℤ). rounded (segment_length d k) v u) (w.value k (omega arith)) (w.value (k + 1) (omega arith))
    ∙ ap (λ (x : ℕ). rounded x (e.value k) (e.value (k + 1))) l)

-- ---- turned surfaces
pub area_sides : AreaSideForSide
area_sides s j h = let e : s.slices - 1 - (s.slices - 1 - j) ≡ j = omega arith in ap (area_of s) e

pub area_ends : AreaEndForEnd
area_ends s w j =
    let n = s.stations - 1 in
    let f : ℕ → ℕ = λ k. rounded (segment_length (row s j) k) (s.ordinate j k) (s.ordinate j (k + 1)) in
    total_cong n _ (λ k. f (n - 1 - k)) (λ k h.
    let i = n - 1 - k in
    let e₁ : n - k ≡ i + 1 = omega arith in
    let e₂ : n - (k + 1) ≡ i = omega arith in
    let z₁ = ap s.place e₁ in
    let z₂ = ap s.place e₂ in
    let top = place_rises s w (i + 1) n (omega arith) (omega (arith, w.some)) in
    let up = w.rises i (omega (arith, w.some)) in
    let d : segment_length (row (end_for_end s) j) k ≡ segment_length (row s j) i = omega arith in
    ap₂ (λ (v u : ℤ). rounded (segment_length (row (end_for_end s) j) k) v u) (ap (s.ordinate j) e₁) (ap (s.ordinate j) e₂)
    ∙ ap (λ (l : ℕ). rounded l (s.ordinate j (i + 1)) (s.ordinate j i)) d
    ∙ segment_turned (segment_length (row s j) i) (s.ordinate j (i + 1)) (s.ordinate j i))
    ∙ sym (total_reverse n f)
