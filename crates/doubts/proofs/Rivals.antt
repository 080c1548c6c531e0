-- Rivals of each kind: lanes side by side from the left kerb.
use Rattle.std.proofs.Common.{◌≡◌, ℕ, zero, suc, ◌+◌, ◌-◌, ◌*◌, true, ℤ, pos, ◌+ℤ◌, ◌*ℤ◌, None, sym, refl, ap, ◌∙◌, ap₂, arith}
use Rattle.std.proofs.lemmas.Int.{ints}
use Rattle.algebra.specs.Frac.{Frac, Same, whole, ◌+F◌, ◌·F◌}
use Rattle.algebra.specs.Sums.{totalF}
use Rattle.algebra.proofs.Frac.{from_≈}
use Rattle.card.specs.Bounds.{kerbs_fit}
use Rattle.surface.specs.Shape.{Shape}
use Rattle.model.specs.Lanes.{breadth}
use Rattle.model.specs.declared.lanes.Carriageway.{Carriageway}
use Rattle.model.proofs.Tables.{fit}
use Rattle.lines.specs.Areas.{row, segment_length, loaded_on}
use Rattle.lines.specs.Segments.{loaded_area}
use Rattle.statement.specs.Lanes.{Starts, Numbered, Laid}
use Rattle.statement.specs.Effects.{Setting, lane_count, lane_width, on_deck, tandem_share, uniform_share, Arrangement, exact}
use Rattle.statement.specs.Permits.{Order}
use Rattle.statement.proofs.Permits.{every_order, every_place, no_tandem}
use Rattle.doubts.specs.Exact.{bare}
use Rattle.doubts.specs.Mixed.{outer_thirds}
use Rattle.doubts.specs.Rivals.{RivalsExist}
use Rattle.doubts.proofs.Laid.{widths}

-- ---- lanes side by side

-- lane i is number i - 1 from the left
in_turn : (k : Carriageway) → Order k (λ i. i - 1)
in_turn k = record { among = λ i h. omega (arith, h); own = λ i j h l e. omega (arith, h, l, e) }

abbrev beside : Setting → Starts
beside g i = 0 + (i - 1) * lane_width g

module _ (g : Setting) (fits : kerbs_fit g.surface.slices g.kerbs ≡ true) where
  beside_laid : Laid g.kerbs (beside g)
  beside_laid = every_order g.kerbs (λ i. i - 1) (in_turn g.kerbs) 0 (omega (arith, fit g.kerbs.width (widths g.surface.slices g.kerbs fits).least))

-- ---- what is not loaded has no effect

zero_times : (x : ℤ) → pos 0 *ℤ x ≡ pos 0
zero_times x = omega (arith, ints)

sum_zero : (f g : Frac) → f.num ≡ pos 0 → g.num ≡ pos 0 → (f +F g).num ≡ pos 0
sum_zero f g p q =
    ap₂ (λ (a b : ℤ). a *ℤ pos g.den +ℤ b *ℤ pos f.den) p q
    ∙ ap₂ (λ (a b : ℤ). a +ℤ b) (zero_times (pos g.den)) (zero_times (pos f.den))

no_sum : (n : ℕ) (f : ℕ → Frac) → ((k : ℕ) → (f k).num ≡ pos 0) → (totalF n f).num ≡ pos 0
no_sum zero f h = refl
no_sum (suc n) f h = sum_zero (totalF n f) (f n) (no_sum n f h) (h n)

no_effect : (f : Frac) → f.num ≡ pos 0 → Same f (whole (pos 0))
no_effect f h = from_≈ f (whole (pos 0)) (ap (λ (a : ℤ). a *ℤ pos 1) h ∙ sym (zero_times (pos f.den)))

times_zero : (x : ℤ) → x *ℤ pos 0 ≡ pos 0
times_zero x = omega (arith, ints)

abbrev empty : Setting → Arrangement
empty g = record { starts = beside g; tandem = λ i. None; load = λ j k. bare }

bare_slice : (s : Shape) (j : ℕ) → (loaded_on s j (λ k. bare)).num ≡ pos 0
bare_slice s j = no_sum (s.stations - 1) (λ k. loaded_area (segment_length (row s j) k) (s.ordinate j k) (s.ordinate j (k + 1)) bare) (λ k. times_zero (pos (segment_length (row s j) k)))

-- each part of the effect is some number of times 0
empty_effect : (g : Setting) → Same (exact g (empty g)) (whole (pos 0))
empty_effect g =
    let tandems : ℕ → Frac = λ i. tandem_share g (suc i) ·F whole (pos 0) in
    let loads : ℕ → Frac = λ j. uniform_share g (beside g) j ·F loaded_on g.surface (on_deck g j) (λ k. bare) in
    no_effect (exact g (empty g)) (sum_zero (totalF (lane_count g) tandems) (totalF (breadth g.kerbs) loads)
    (no_sum (lane_count g) tandems (λ i. zero_times (pos (tandem_share g (suc i)))))
    (no_sum (breadth g.kerbs) loads (λ j.
    ap (λ (a : ℤ). a *ℤ pos (uniform_share g (beside g) j)) (bare_slice g.surface (on_deck g j)) ∙ zero_times (pos (uniform_share g (beside g) j)))))

pub rivals : RivalsExist
rivals g lawful fits =
    let laid = beside_laid g fits in
    let side : (i : ℕ) → Numbered g.kerbs i → beside g i ≡ (i - 1) * lane_width g = λ i h. omega arith in
    record {
      idle = (empty g, record { permitted = no_tandem g (beside g) laid _; lanes = side; no_tandem = λ i. refl; no_load = λ j k. refl; effect = empty_effect g });
      between = λ room. (
        _,
        record {
          permitted = every_place g (beside g) laid (λ j k. bare) 1 1 2 (omega arith) (omega arith) (omega arith);
          lanes = side;
          tandem = refl;
          not_whole = λ c e. omega (arith, e);
        },
      );
      gapped = (
        _,
        record {
          permitted = no_tandem g (beside g) laid (λ j k. outer_thirds);
          lanes = side;
          parts = refl;
          loaded = refl;
          in_order = (omega arith, omega arith, omega arith, omega arith);
        },
      );
    }
