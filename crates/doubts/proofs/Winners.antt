-- Lanes 1, 2 and lanes 2, 1 from the left, on a deck that leans to the right.
use Rattle.std.proofs.Common.{◌≡◌, ℕ, zero, suc, ◌+◌, ◌*◌, ◌<◌, ◌≤◌, false, ltb, ℤ, pos, nat_abs, ◌≤ℤ◌, Option, refl, arith}
use Rattle.std.proofs.lemmas.Int.{ints}
use Rattle.std.proofs.lemmas.Bool.{lt-ltb, or_parts, both_ways}
use Rattle.algebra.specs.Frac.{◌≤F◌}
use Rattle.algebra.proofs.Frac.{trans, adds, scales}
use Rattle.algebra.proofs.IntLaws.{+ℤ-mono, *ℤ-mono}
use Rattle.surface.specs.Shape.{Lawful}
use Rattle.edge.specs.Edges.{ordinate_at, edge_lawful}
use Rattle.model.specs.declared.tandems.Tandem.{Tandem}
use Rattle.model.specs.declared.weights.LoadKind.{LoadKind}
use Rattle.model.specs.declared.weights.LoadKind.TheVariants.{Characteristic, Frequent}
use Rattle.lines.specs.Axles.{wheel_sum, axle_line}
use Rattle.lines.specs.Lines.{Line, on, under, value_at, axles, IsTandem}
use Rattle.lines.proofs.Exists.{tandem_exists}
use Rattle.lines.proofs.Lanes.{rises}
use Rattle.statement.specs.Lanes.{Laid}
use Rattle.statement.specs.Effects.{Tandems, rounded_effect}
use Rattle.decks.specs.Decks.{kerbs_of}
use Rattle.decks.proofs.Computed.{all_below}
use Rattle.doubts.proofs.Laid.{clear, lanes_tested, laid_tested}
use Rattle.doubts.specs.Winners.{trial_line, leaning, leaning_setting, one_two, two_one, WinnersDiffer}

-- ---- of two lines over the same places, the higher one has the greater T
module _ (places : ℕ → ℕ) (low high : ℕ → ℤ) (each : (k : ℕ) → low k ≤ℤ high k) where
  abbrev lower : Line
  lower = record { count = 3; place = places; value = low }

  abbrev higher : Line
  higher = record { count = 3; place = places; value = high }

  on_higher : (i a b : ℕ) → on lower i a b ≤F on higher i a b
  on_higher i a b = record { cross = *ℤ-mono _ _ _ (+ℤ-mono (*ℤ-mono _ _ _ (each i)) (*ℤ-mono _ _ _ (each (i + 1)))) }

  value_higher : (a b : ℕ) → value_at lower a b ≤F value_at higher a b
  value_higher a b = on_higher (under lower a b 1) a b

  axles_higher : (a b : ℕ) → axles lower a b ≤F axles higher a b
  axles_higher a b = adds (value_higher a b) (value_higher (a + 1200 * b) b)

  greater : (t u : ℕ) (p q : Option ℕ) → IsTandem lower t p → IsTandem higher u q → t ≤ u
  greater t u p q h k = h.least u (λ a b s. trans (scales 10000 _ _ (axles_higher a b)) (k.bound a b (record { some = s.some; fits = s.fits })))

-- the lane at the left kerb has the lower line
leans : (k : ℕ) → wheel_sum leaning 0 60 k ≤ℤ wheel_sum leaning 60 60 k
leans zero = omega (arith, ints)
leans (suc zero) = omega (arith, ints)
leans (suc (suc zero)) = omega (arith, ints)
leans (suc (suc (suc k))) = omega (arith, ints)

left_less : (kind : LoadKind) (tandems : ℕ → Tandem) → Tandems (leaning_setting kind) tandems → (tandems 0).t ≤ (tandems 60).t
left_less kind tandems known = greater leaning.place (wheel_sum leaning 0 60) (wheel_sum leaning 60 60) leans _ _ _ _ (known 0 (omega arith)) (known 60 (omega arith))

less : (kind : LoadKind) (tandems : ℕ → Tandem) → (tandems 0).t ≤ (tandems 60).t → rounded_effect (leaning_setting kind) tandems one_two < rounded_effect (leaning_setting kind) tandems two_one
less Characteristic tandems h = omega arith
less Frequent tandems h = omega arith

-- ---- both orders are laid
left_laid : Laid (kerbs_of 0 60) one_two
unfolding all_below clear lanes_tested
left_laid = laid_tested (kerbs_of 0 60) one_two refl

right_laid : Laid (kerbs_of 0 60) two_one
unfolding all_below clear lanes_tested
right_laid = laid_tested (kerbs_of 0 60) two_one refl

-- ---- the deck is lawful, so its tandems exist
line_rises : (k : ℕ) → k + 1 < 3 → leaning.place k < leaning.place (k + 1)
line_rises zero h = omega arith
line_rises (suc zero) h = omega arith
line_rises (suc (suc k)) h = absurd (omega arith)

line_ends : (k : ℕ) → leaning.place k < 200000
line_ends zero = omega arith
line_ends (suc zero) = omega arith
line_ends (suc (suc zero)) = omega arith
line_ends (suc (suc (suc k))) = omega arith

line_within : (k : ℕ) → nat_abs (ordinate_at trial_line k) ≤ 50000
line_within zero = omega arith
line_within (suc zero) = omega arith
line_within (suc (suc zero)) = omega arith
line_within (suc (suc (suc k))) = omega arith

lawful : Lawful leaning
lawful = edge_lawful 120 (pos 0) (pos 1000) trial_line
    ((omega arith, omega arith, omega arith, omega arith, refl), line_rises, λ k h. line_ends k)
    (omega arith, omega arith, λ k h. line_within k)

tandem_at : (x : ℕ) → (t : ℕ) × (p : Option ℕ) × IsTandem (axle_line leaning (0 + x) 60) t p
tandem_at x = tandem_exists (axle_line leaning (0 + x) 60) (rises leaning lawful (0 + x) 60)

module _ (kind : LoadKind) where
  some_known : (tandems : ℕ → Tandem) × Tandems (leaning_setting kind) tandems
  some_known = (λ x. record { t = (tandem_at x).0; place = (tandem_at x).1 }, λ x h. (tandem_at x).2)

  -- what is not below what is less is no winner
  none_wins : (tandems : ℕ → Tandem) → Tandems (leaning_setting kind) tandems
      → ltb (rounded_effect (leaning_setting kind) tandems one_two) (rounded_effect (leaning_setting kind) tandems two_one) ≡ false → ⊥
  none_wins tandems known e = both_ways _ e (lt-ltb _ _ (less kind tandems (left_less kind tandems known)))

pub differ : WinnersDiffer
differ =
    record {
      lawful = lawful;
      left_laid = left_laid;
      right_laid = right_laid;
      differ = λ kind. record {
        known = some_known kind;
        less = λ tandems known. less kind tandems (left_less kind tandems known);
        no_figure = λ tandems known w. none_wins kind tandems known (w.greatest two_one right_laid);
        no_drawing = λ tandems known w. none_wins kind tandems known (or_parts _ _ (w.greatest two_one right_laid)).0;
      };
    }
