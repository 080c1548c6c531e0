-- A loading met from the other end of its segment has the same area.
use Rattle.std.proofs.Common.{◌≡◌, ℕ, ◌-◌, ◌*◌, ◌≤◌, List, [], ◌∷◌, ℤ, pos, ◌+ℤ◌, ◌*ℤ◌, sym, refl, ap, ◌∙◌, ap₂, arith}
use Rattle.std.proofs.lemmas.Int.{ints}
use Rattle.algebra.specs.Frac.{Same}
use Rattle.algebra.proofs.Frac.{from_≈}
use Rattle.lines.specs.Segments.{Stretch, Apart, Loading, height, area, loaded_area}
use Rattle.statement.specs.Permits.{stretch}
use Rattle.doubts.specs.Mirrors.{flipped, Flipped}

-- ---- stretches apart
apart_low : (a m : ℕ) (l : List Stretch) → Apart a m l → a ≤ m
apart_low a m [] h = h
apart_low a m (s ∷ l) h = omega (arith, h.0, h.1, apart_low s.to m l h.2)

apart_sooner : (a b m : ℕ) (l : List Stretch) → a ≤ b → Apart b m l → Apart a m l
apart_sooner a b m [] le h = omega (arith, h)
apart_sooner a b m (s ∷ l) le h = (omega (arith, h.0), h.1, h.2)

flipped_apart : (a m : ℕ) (l met : List Stretch) → Apart a m l → Apart (m - a) m met → Apart 0 m (flipped m l met)
flipped_apart a m [] met h k = apart_sooner 0 (m - a) m met (omega arith) k
flipped_apart a m (s ∷ l) met h k =
    flipped_apart s.to m l (stretch (m - s.to) (m - s.from) ∷ met) h.2
    (omega arith, omega (arith, h.1), apart_sooner (m - s.from) (m - a) m met (omega (arith, h.0)) k)

pub flips : (here : Loading) → (there : Loading) × Flipped here there
flips here = (
  record {
    parts = here.parts;
    some = here.some;
    stretches = flipped here.parts here.stretches [];
    apart = flipped_apart 0 here.parts here.stretches [] here.apart (omega arith);
  },
  record { parts = refl; stretches = refl },
)

-- ---- areas
swap : (a b : ℤ) → a +ℤ b ≡ b +ℤ a
swap a b = omega (arith, ints)

past : (a b c : ℤ) → b +ℤ (a +ℤ c) ≡ (a +ℤ b) +ℤ c
past a b c = omega (arith, ints)

no_more : (a : ℤ) → pos 0 +ℤ a ≡ a
no_more a = omega (arith, ints)

and_none : (a : ℤ) → a +ℤ pos 0 ≡ a
and_none a = omega (arith, ints)

module _ (v u : ℤ) (m : ℕ) where
  height_flipped : (x : ℕ) → x ≤ m → height u v m (m - x) ≡ height v u m x
  height_flipped x h =
      let e : m - (m - x) ≡ x = omega arith in
      ap (λ i. u *ℤ pos i +ℤ v *ℤ pos (m - x)) e ∙ swap (u *ℤ pos x) (v *ℤ pos (m - x))

  stretch_flipped : (p q : ℕ) → p ≤ q → q ≤ m → pos ((m - p) - (m - q)) *ℤ (height u v m (m - q) +ℤ height u v m (m - p)) ≡ pos (q - p) *ℤ (height v u m p +ℤ height v u m q)
  stretch_flipped p q h k =
      let e : (m - p) - (m - q) ≡ q - p = omega arith in
      ap₂ (λ (i : ℕ) (a : ℤ). pos i *ℤ a) e
      (ap₂ (λ (a b : ℤ). a +ℤ b) (height_flipped q k) (height_flipped p (omega arith)) ∙ swap (height v u m q) (height v u m p))

  area_flipped : (a : ℕ) (l met : List Stretch) → Apart a m l → area u v m (flipped m l met) ≡ area v u m l +ℤ area u v m met
  area_flipped a [] met h = sym (no_more (area u v m met))
  area_flipped a (s ∷ l) met h =
      let term = pos (s.to - s.from) *ℤ (height v u m s.from +ℤ height v u m s.to) in
      area_flipped s.to l (stretch (m - s.to) (m - s.from) ∷ met) h.2
      ∙ ap (λ (t : ℤ). area v u m l +ℤ (t +ℤ area u v m met)) (stretch_flipped s.from s.to h.1 (apart_low s.to m l h.2))
      ∙ past term (area v u m l) (area u v m met)

pub load_flipped : (d : ℕ) (v u : ℤ) (here there : Loading) → Flipped here there → Same (loaded_area d u v there) (loaded_area d v u here)
load_flipped d v u here there f =
    let e : area u v there.parts there.stretches ≡ area v u here.parts here.stretches =
    ap₂ (λ (m : ℕ) (l : List Stretch). area u v m l) f.parts f.stretches ∙ area_flipped v u here.parts 0 here.stretches [] here.apart ∙ and_none (area v u here.parts here.stretches) in
    from_≈ _ _ (ap₂ (λ (a : ℤ) (m : ℕ). (pos d *ℤ a) *ℤ pos (m * m)) e (sym f.parts))
