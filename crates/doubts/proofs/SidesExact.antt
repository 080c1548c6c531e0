-- An arrangement and its mirror, side for side, have the same exact effect.
use Rattle.std.proofs.Common.{◌≡◌, ℕ, suc, ◌+◌, ◌-◌, ◌<◌, ◌≤◌, true, Some, None, Option, sym, refl, ap, ◌∙◌, ap₂, subst₂, arith}
use Rattle.algebra.specs.Frac.{Frac, Same, ◌+F◌, ◌·F◌}
use Rattle.algebra.specs.Sums.{totalF}
use Rattle.algebra.proofs.Frac.{same_refl, same_sym, same_adds}
use Rattle.surface.specs.Shape.{Lawful, side_for_side}
use Rattle.card.specs.Bounds.{kerbs_fit}
use Rattle.model.specs.Lanes.{breadth}
use Rattle.model.specs.Weights.{uniform_weight}
use Rattle.model.proofs.Tables.{lane_range}
use Rattle.lines.specs.Areas.{loaded_on}
use Rattle.lines.specs.Axles.{axle_line}
use Rattle.lines.specs.Lines.{axles}
use Rattle.lines.specs.Segments.{Loading}
use Rattle.lines.proofs.Agreeing.{axles_same}
use Rattle.lines.proofs.Lanes.{agree_sides}
use Rattle.statement.specs.Lanes.{owner_of}
use Rattle.statement.specs.Effects.{Setting, lane_count, lane_width, on_deck, tandem_share, uniform_share, lane_line, Place, Arrangement, tandem_effect}
use Rattle.statement.specs.Turns.{sides_turned, facing}
use Rattle.statement.proofs.Owners.{totalF_cong}
use Rattle.statement.proofs.Turns.{inside_deck, lane_across}
use Rattle.doubts.specs.Mirrors.{InsideKerbs, SidesExact}
use Rattle.doubts.proofs.Sums.{turned_round}

module _ (g : Setting) (lawful : Lawful g.surface) (fit : kerbs_fit g.surface.slices g.kerbs ≡ true) where
  -- lanes that face one another have the same W
  same_axles : (x y : ℕ) → x + lane_width g + y ≡ breadth g.kerbs → (a b : ℕ) → axles (lane_line (sides_turned g) y) a b ≡ axles (lane_line g x) a b
  same_axles x y e a b =
      let l = lane_width g in
      let i = on_deck g x in
      let there : on_deck (sides_turned g) y ≡ g.surface.slices - i - l = omega (arith, inside_deck g fit) in
      ap (λ z. axles (axle_line (side_for_side g.surface) z l) a b) there
      ∙ sym (axles_same (axle_line g.surface i l) (axle_line (side_for_side g.surface) (g.surface.slices - i - l) l) (agree_sides g.surface i l (lane_range g.kerbs.width).0 (omega (arith, inside_deck g fit))) lawful.some a b)

  same_tandem : (x y : ℕ) → x + lane_width g + y ≡ breadth g.kerbs → (o : Option Place) → tandem_effect (sides_turned g) y o ≡ tandem_effect g x o
  same_tandem x y e None = refl
  same_tandem x y e (Some p) = ap (λ f. 10000 ·F f) (same_axles x y e p.num p.den)

  same_load : (j : ℕ) → j < breadth g.kerbs → (f : ℕ → Loading) → loaded_on (side_for_side g.surface) (on_deck (sides_turned g) j) f ≡ loaded_on g.surface (on_deck g (breadth g.kerbs - 1 - j)) f
  same_load j h f = ap (λ i. loaded_on g.surface i f) (across g.surface.slices g.kerbs.first (breadth g.kerbs) j (inside_deck g fit) h)
    where
      across : (n a b j : ℕ) → a + b ≤ n → j < b → n - 1 - (n - a - b + j) ≡ a + (b - 1 - j)
      across n a b j h k = omega arith

  module _ (x : Arrangement) (inside : InsideKerbs g x) where
    faced : (i : ℕ) → 1 ≤ i → i ≤ lane_count g → x.starts i + lane_width g + facing g.kerbs x.starts i ≡ breadth g.kerbs
    faced i lo hi = omega (arith, inside i (lo, hi))

    abbrev slice : ℕ → Frac
    slice j = uniform_share g x.starts j ·F loaded_on g.surface (on_deck g j) (x.load j)

    abbrev mirrored_slice : ℕ → Frac
    mirrored_slice j = uniform_share (sides_turned g) (facing g.kerbs x.starts) j ·F loaded_on (side_for_side g.surface) (on_deck (sides_turned g) j) (x.load (breadth g.kerbs - 1 - j))

    same_slice : (j : ℕ) → j < breadth g.kerbs → mirrored_slice j ≡ slice (breadth g.kerbs - 1 - j)
    same_slice j h = ap₂ (λ (o : ℕ) (f : Frac). uniform_weight g.kind g.factors (owner_of o) ·F f)
        (lane_across (lane_width g) (breadth g.kerbs) x.starts (facing g.kerbs x.starts) (lane_count g) faced j h)
        (same_load j h (x.load (breadth g.kerbs - 1 - j)))

    abbrev lane : ℕ → Frac
    lane i = tandem_share g (suc i) ·F tandem_effect g (x.starts (suc i)) (x.tandem (suc i))

    abbrev mirrored_lane : ℕ → Frac
    mirrored_lane i = tandem_share g (suc i) ·F tandem_effect (sides_turned g) (facing g.kerbs x.starts (suc i)) (x.tandem (suc i))

    same_lanes : totalF (lane_count g) mirrored_lane ≡ totalF (lane_count g) lane
    same_lanes = totalF_cong (lane_count g) mirrored_lane lane (λ i h. ap (λ f. tandem_share g (suc i) ·F f) (same_tandem _ _ (faced (suc i) (omega arith) (omega arith)) (x.tandem (suc i))))

    same_slices : totalF (breadth g.kerbs) mirrored_slice ≡ totalF (breadth g.kerbs) (λ j. slice (breadth g.kerbs - 1 - j))
    same_slices = totalF_cong (breadth g.kerbs) mirrored_slice (λ j. slice (breadth g.kerbs - 1 - j)) same_slice

    both : Same (totalF (lane_count g) mirrored_lane +F totalF (breadth g.kerbs) mirrored_slice) (totalF (lane_count g) lane +F totalF (breadth g.kerbs) slice)
    both = subst₂ (λ (a b : Frac). Same (a +F b) (totalF (lane_count g) lane +F totalF (breadth g.kerbs) slice)) (sym same_lanes) (sym same_slices)
        (same_adds _ _ _ _ (same_refl (totalF (lane_count g) lane)) (same_sym _ _ (turned_round (breadth g.kerbs) slice)))

pub sides_exact : SidesExact
sides_exact g lawful fit x inside = both g lawful fit x inside
