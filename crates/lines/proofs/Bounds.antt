-- How great A and T can be on a lawful surface: no ordinate is above 100,000, and no place reaches 200,000 mm.
use Rattle.std.proofs.Common.{◌≡◌, ℕ, ◌+◌, ◌-◌, ◌*◌, ◌<◌, ◌≤◌, get_or, ℤ, pos, ◌+ℤ◌, ◌*ℤ◌, nat_abs, ◌≤ℤ◌, Option, ap, arith}
use Rattle.std.proofs.lemmas.Int.{ints}
use Rattle.algebra.specs.Frac.{◌≤F◌, whole}
use Rattle.algebra.proofs.Frac.{trans, adds, join, scales}
use Rattle.algebra.proofs.IntLaws.{*ℤ-mono, +ℤ-mono}
use Rattle.model.specs.Lanes.{wheels}
use Rattle.model.specs.declared.tandems.Tandem.{Tandem}
use Rattle.model.proofs.Tables.{wheel_inside}
use Rattle.surface.specs.Shape.{Shape, Lawful}
use Rattle.lines.specs.Lines.{Line, Rising, Station, last, station, between, under, value_at, axles, Stands, IsTandem}
use Rattle.lines.specs.Areas.{row, area_of}
use Rattle.lines.specs.Axles.{wheel_sum, axle_line, LaneTandem}
use Rattle.lines.proofs.Areas.{area_small}
use Rattle.lines.proofs.Cells.{gap, wide}
use Rattle.lines.proofs.Values.{held}
use Rattle.lines.proofs.Lanes.{rises}

-- ---- values between stations

mean_low : (v u : ℤ) (x y n m : ℕ) → v ≤ℤ pos m → u ≤ℤ pos m → x + y ≡ n → ((v *ℤ pos x +ℤ u *ℤ pos y) *ℤ pos 1) ≤ℤ (pos m *ℤ pos n)
mean_low v u x y n m h k e =
    let sum = +ℤ-mono (*ℤ-mono x v (pos m) h) (*ℤ-mono y u (pos m) k) in
    omega (arith, ints, sum, ap (λ i. m * i) e)

between_low : (x t : Station) (a b m : ℕ) → 0 < b → x.place < t.place → x.place * b ≤ a → a ≤ t.place * b → x.value ≤ℤ pos m → t.value ≤ℤ pos m → between x t a b ≤F whole (pos m)
between_low x t a b m p up lo hi h k =
    let n = gap x.place t.place b (omega arith) in
    record { cross = rw (wide x.place t.place b p up) (mean_low x.value t.value _ _ _ m h k (omega arith)) }

module _ (d : Line) (w : Rising d) (m : ℕ) (low : (k : ℕ) → k < d.count → d.value k ≤ℤ pos m) where
  value_low : (a b : ℕ) → 0 < b → a ≤ last d * b → value_at d a b ≤F whole (pos m)
  value_low a b p h =
      let i = under d a b (d.count - 2) in
      let s = held d w a b h in
      between_low (station d i) (station d (i + 1)) a b m p (w.rises i s.inside) s.above s.below (low i (omega (arith, s.inside))) (low (i + 1) s.inside)

  axles_low : (a b : ℕ) → Stands d a b → axles d a b ≤F whole (pos (m + m))
  axles_low a b s = trans (adds (value_low a b s.some (omega (arith, s.fits))) (value_low (a + 1200 * b) b s.some s.fits)) (join m m)

  -- T is at most 10,000 times both axles at the greatest value
  tandem_low : (t : ℕ) (p : Option ℕ) → IsTandem d t p → t ≤ (m + m) * 10000
  tandem_low t p h = h.least ((m + m) * 10000) (λ a b s. trans (scales 10000 _ _ (axles_low a b s)) (record { cross = omega (arith, ints) }))

-- ---- on a lawful surface

four_low : (a b c d : ℤ) → nat_abs a ≤ 100000 → nat_abs b ≤ 100000 → nat_abs c ≤ 100000 → nat_abs d ≤ 100000 → (a +ℤ (b +ℤ (c +ℤ (d +ℤ pos 0)))) ≤ℤ pos 400000
four_low a b c d h₁ h₂ h₃ h₄ = omega (arith, ints)

module _ (s : Shape) (w : Lawful s) where
  wheels_low : (a l k : ℕ) → 54 ≤ l → a + l ≤ s.slices → k < s.stations → wheel_sum s a l k ≤ℤ pos 400000
  wheels_low a l k wide inside h =
      let o : ℕ → ℤ = λ i. s.ordinate (a + get_or (wheels l) i 0) k in
      let one : (i : ℕ) → i < 4 → nat_abs (o i) ≤ 100000 = λ i j. w.within (a + get_or (wheels l) i 0) k (omega (arith, wheel_inside l i wide j)) h in
      four_low (o 0) (o 1) (o 2) (o 3) (one 0 (omega arith)) (one 1 (omega arith)) (one 2 (omega arith)) (one 3 (omega arith))

  -- T of a lane
  pub lane_tandem_low : (a l : ℕ) (t : Tandem) → 54 ≤ l → a + l ≤ s.slices → LaneTandem s a l t → t.t ≤ 8000000000
  lane_tandem_low a l t wide inside h = tandem_low (axle_line s a l) (rises s w a l) 400000 (λ k i. wheels_low a l k wide inside i) t.t t.place h

  -- A of a slice
  pub area_of_low : (j : ℕ) → j < s.slices → area_of s j ≤ 40000000000
  area_of_low j h =
      let n = s.stations - 1 in
      let rising : Rising (row s j) = record { some = w.some; begins = w.begins; rises = w.rises } in
      omega (arith, w.some, w.ends n (omega (arith, w.some)), area_small (row s j) rising (λ k i. w.within j k h i) n (omega (arith, w.some)))
