-- Turning the surface keeps T of a lane.
use Rattle.std.proofs.Common.{◌≡◌, ℕ, ◌+◌, ◌-◌, ◌/◌, ◌≤◌, ℤ, pos, ◌+ℤ◌, refl, ap, ◌∙◌, ap₂, arith}
use Rattle.std.proofs.lemmas.Int.{ints}
use Rattle.surface.specs.Shape.{Shape, Lawful, side_for_side}
use Rattle.lines.specs.Lines.{Rising, Agree}
use Rattle.lines.specs.Axles.{axle_line}
use Rattle.lines.specs.Facts.{TandemSideForSide, TandemEndForEnd}
use Rattle.lines.proofs.Agreeing.{tandem_same}
use Rattle.lines.proofs.Turned.{same_t}

pub rises : (s : Shape) → Lawful s → (a l : ℕ) → Rising (axle_line s a l)
rises s w a l = record { some = w.some; begins = w.begins; rises = w.rises }

pub tandem_ends : TandemEndForEnd
tandem_ends s w a l t u p q g h = same_t (axle_line s a l) (rises s w a l) t u p q g h

around : (a b c d : ℤ) → a +ℤ (b +ℤ (c +ℤ (d +ℤ pos 0))) ≡ d +ℤ (c +ℤ (b +ℤ (a +ℤ pos 0)))
around a b c d = omega (arith, ints)

-- the mirrored lane of the mirrored surface has the same W
pub agree_sides : (s : Shape) (a l : ℕ) → 54 ≤ l → a + l ≤ s.slices → Agree (axle_line s a l) (axle_line (side_for_side s) (s.slices - a - l) l)
agree_sides s a l lo f =
    let n = s.slices in
    let m = n - a - l in
    let x = (l - 1) / 2 in
    let y = l / 2 in
    let s₁ : a + (x - 20) ≡ n - 1 - (m + (y + 20)) = omega arith in
    let s₂ : a + (y - 20) ≡ n - 1 - (m + (x + 20)) = omega arith in
    let s₃ : a + (x + 20) ≡ n - 1 - (m + (y - 20)) = omega arith in
    let s₄ : a + (y + 20) ≡ n - 1 - (m + (x - 20)) = omega arith in
    let o : ℕ → ℕ → ℤ = s.ordinate in
    let at : (k i j : ℕ) → i ≡ j → (z z' : ℤ) → z ≡ z' → o i k +ℤ z ≡ o j k +ℤ z' = λ k i j e z z' f. ap₂ (λ (v u : ℤ). v +ℤ u) (ap (λ (j : ℕ). o j k) e) f in
    record {
      count = refl;
      place = λ k i. refl;
      value = λ k i.
          around (o (a + (x - 20)) k) (o (a + (y - 20)) k) (o (a + (x + 20)) k) (o (a + (y + 20)) k)
          ∙ at k _ _ s₄ _ _ (at k _ _ s₃ _ _ (at k _ _ s₂ _ _ (at k _ _ s₁ _ _ refl)));
    }

pub tandem_sides : TandemSideForSide
tandem_sides s w a l t p lo f h = tandem_same (axle_line s a l) (axle_line (side_for_side s) (s.slices - a - l) l) (agree_sides s a l lo f) w.some t p h
