-- An arrangement and its mirror, end for end, have the same exact effect.
use Rattle.std.proofs.Common.{◌≡◌, ℕ, suc, ◌+◌, ◌-◌, ◌*◌, ◌<◌, ◌≤◌, ℤ, Some, None, Option, sym, refl, ap, ◌∙◌, subst, ap₂, arith}
use Rattle.algebra.specs.Frac.{Frac, Same}
use Rattle.algebra.proofs.Frac.{same_refl, same_sym, same_trans, same_adds}
use Rattle.surface.specs.Shape.{Shape, Lawful, end_for_end}
use Rattle.model.specs.Lanes.{breadth}
use Rattle.lines.specs.Areas.{row, segment_length, loaded_on}
use Rattle.lines.specs.Lines.{Line, Rising, last, axles, Stands, reversed}
use Rattle.lines.specs.Segments.{Loading, loaded_area}
use Rattle.lines.proofs.Lanes.{rises}
use Rattle.lines.proofs.Turned.{axles_turned}
use Rattle.lines.proofs.Values.{place_up}
use Rattle.statement.specs.Effects.{Setting, lane_count, lane_width, on_deck, tandem_share, uniform_share, lane_line, Place, tandem_effect}
use Rattle.statement.specs.Turns.{ends_turned, other_end}
use Rattle.doubts.specs.Mirrors.{Flipped, EndsExact}
use Rattle.doubts.proofs.Flips.{load_flipped}
use Rattle.doubts.proofs.Sums.{turned_round, each_same, same_times}

-- ---- tandems
axles_back : (d : Line) → Rising d → (a b : ℕ) → Stands d a b → Same (axles (reversed d) (last d * b - a - 1200 * b) b) (axles d a b)
axles_back d w a b s =
    let x = last d * b - a - 1200 * b in
    let e : last d * b - x - 1200 * b ≡ a = omega (arith, s.fits) in
    subst (λ (z : ℕ). Same (axles (reversed d) x b) (axles d z b)) e (axles_turned d w x b s.some (omega (arith, s.fits)))

module _ (g : Setting) (lawful : Lawful g.surface) where
  same_tandem : (x : ℕ) (o : Option Place) → ((p : Place) → o ≡ Some p → Stands (lane_line g x) p.num p.den)
      → Same (tandem_effect (ends_turned g) x (other_end (g.surface.place (g.surface.stations - 1)) o)) (tandem_effect g x o)
  same_tandem x None s = same_refl _
  same_tandem x (Some p) s = same_times 10000 _ _ (axles_back (lane_line g x) (rises g.surface lawful (on_deck g x) (lane_width g)) p.num p.den (s p refl))

-- ---- slices
module _ (s : Shape) (w : Lawful s) (j : ℕ) (here there : ℕ → Loading) (flip : (k : ℕ) → k < s.stations - 1 → Flipped (here (s.stations - 1 - 1 - k)) (there k)) where
  abbrev part : ℕ → Frac
  part k = loaded_area (segment_length (row s j) k) (s.ordinate j k) (s.ordinate j (k + 1)) (here k)

  abbrev turned_part : ℕ → Frac
  turned_part k = loaded_area (segment_length (row (end_for_end s) j) k) (s.ordinate j (s.stations - 1 - k)) (s.ordinate j (s.stations - 1 - (k + 1))) (there k)

  same_part : (k : ℕ) → k < s.stations - 1 → Same (turned_part k) (part (s.stations - 1 - 1 - k))
  same_part k h =
      let n = s.stations - 1 in
      let i = n - 1 - k in
      let e₁ : n - k ≡ i + 1 = omega arith in
      let e₂ : n - (k + 1) ≡ i = omega arith in
      let z₁ = ap s.place e₁ in
      let z₂ = ap s.place e₂ in
      let top = place_up (row s j) (record { some = w.some; begins = w.begins; rises = w.rises }) (i + 1) n (omega arith) (omega (arith, w.some)) in
      let up = w.rises i (omega (arith, w.some)) in
      let d : segment_length (row (end_for_end s) j) k ≡ segment_length (row s j) i = omega arith in
      let e : turned_part k ≡ loaded_area (segment_length (row s j) i) (s.ordinate j (i + 1)) (s.ordinate j i) (there k) =
      ap₂ (λ (v u : ℤ). loaded_area (segment_length (row (end_for_end s) j) k) v u (there k)) (ap (s.ordinate j) e₁) (ap (s.ordinate j) e₂)
      ∙ ap (λ (l : ℕ). loaded_area l (s.ordinate j (i + 1)) (s.ordinate j i) (there k)) d in
      subst (λ (z : Frac). Same z (part i)) (sym e) (load_flipped (segment_length (row s j) i) (s.ordinate j i) (s.ordinate j (i + 1)) (here i) (there k) (flip k h))

  same_load : Same (loaded_on (end_for_end s) j there) (loaded_on s j here)
  same_load = same_trans _ _ _ (each_same (s.stations - 1) turned_part (λ k. part (s.stations - 1 - 1 - k)) same_part) (same_sym _ _ (turned_round (s.stations - 1) part))

pub ends_exact : EndsExact
ends_exact g lawful x p load flip =
    same_adds _ _ _ _
    (each_same (lane_count g) _ _ (λ i h.
    let numbered : (1 ≤ suc i) × (suc i ≤ lane_count g) = (omega arith, omega arith) in
    same_times (tandem_share g (suc i)) _ _ (same_tandem g lawful (x.starts (suc i)) (x.tandem (suc i)) (λ q e. p.stands (suc i) q numbered e))))
    (each_same (breadth g.kerbs) _ _ (λ j h. same_times (uniform_share g x.starts j) _ _ (same_load g.surface lawful (on_deck g j) (x.load j) (load j) (λ k l. flip j k h l))))
