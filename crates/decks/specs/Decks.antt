-- The trial decks: a deck with one line over every slice, and what is known of it at several widths.
use Rattle.std.specs.Prelude.{◌≡◌, ℕ, ◌<◌, List, [], ◌∷◌, ℤ, pos, negsuc, Some, None, slice_index, slice_index_or}
use Rattle.surface.specs.Shape.{Shape}
use Rattle.measured.specs.Rows.{rows_shape}
use Rattle.measured.specs.Spread.{spread}
use Rattle.measured.specs.declared.row.Row.{Row}
use Rattle.model.specs.Facts.{LanesAre}
use Rattle.model.specs.Lanes.{wheels}
use Rattle.model.specs.declared.lanes.Carriageway.{Carriageway}
use Rattle.model.specs.declared.tandems.Tandem.{Tandem}
use Rattle.model.specs.declared.weights.Factors.{Factors}
use Rattle.model.specs.declared.weights.LoadKind.{LoadKind}
use Rattle.model.specs.declared.weights.LoadKind.TheVariants.{Characteristic, Frequent}
use Rattle.lines.specs.Areas.{area_of}
use Rattle.lines.specs.Facts.{one_metre}
use Rattle.lines.specs.Lines.{Line, last, Stands}
use Rattle.worths.specs.Kinds.{effect_kind, kerbed_kind, kerbed}
use Rattle.card.specs.Steps.{open_cause, hundred}
use Rattle.card.specs.Told.{job_told}
use Rattle.card.specs.declared.fault.JobFault.TheVariants.{Kerbs}
use Rattle.statement.specs.Effects.{Setting, Tandems, rounded_effect}
use Rattle.statement.specs.Winners.{Winner}

-- a deck of n slices with the same line over every slice
abbrev pub even : ℕ → List ℕ → List ℤ → Shape
even n places line = record { slices = n; stations = 3; place = λ k. slice_index places k; ordinate = λ _ k. slice_index_or line k (pos 0) }

-- 20 m long, with the ordinate 5,000 in the middle
abbrev pub even_deck : ℕ → Shape
even_deck n = even n (0 ∷ 10000 ∷ 20000 ∷ []) (pos 0 ∷ pos 5000 ∷ pos 0 ∷ [])

abbrev pub row : ℕ → ℤ → Row
row z v = record { place = z; ordinates = v ∷ v ∷ [] }

-- the trial table: paths at slices 30 and 89, and three stations
abbrev pub trial_table : Shape
trial_table = rows_shape 120 2 (30 ∷ 89 ∷ []) 3 (row 0 (pos 0) ∷ row 10000 (pos 5000) ∷ row 20000 (pos 0) ∷ [])

abbrev pub kerbs_of : ℕ → ℕ → Carriageway
kerbs_of a w = record { first = a; width = w }

-- the trial deck with the carriageway of width w at its left edge, all factors 100
abbrev pub trial : ℕ → LoadKind → Setting
trial w kind = record { surface = even_deck 120; kerbs = kerbs_of 0 w; factors = hundred; kind = kind }

-- T and place of every lane on it: 10,000 times 37,600, with the rear axle at 8,800 mm
abbrev pub trial_tandem : Tandem
trial_tandem = record { t = 376000000; place = Some 8800 }

abbrev pub lanes_at : List ℕ → ℕ → ℕ
lanes_at starts i = slice_index (0 ∷ starts) i

-- the rounded effect on the trial deck, with lanes 1, 2, … at these slices
abbrev pub trial_effect : ℕ → LoadKind → List ℕ → ℕ
trial_effect w kind starts = rounded_effect (trial w kind) (λ _. trial_tandem) (lanes_at starts)

-- figure's winner is lanes at these slices, with this rounded effect
pub record Wins (w : ℕ) (starts : List ℕ) (effect : ℕ) : Type 0 where
  pub winner : Winner effect_kind (λ e k. e) (trial w Characteristic) (λ _. trial_tandem) (lanes_at starts)
  pub attained : trial_effect w Characteristic starts ≡ effect

-- and drawing's
pub record WinsDrawn (w : ℕ) (starts : List ℕ) (effect : ℕ) : Type 0 where
  pub winner : Winner kerbed_kind kerbed (trial w Characteristic) (λ _. trial_tandem) (lanes_at starts)
  pub attained : trial_effect w Characteristic starts ≡ effect

pub record Decks : Type 0 where
  -- the trial table is the trial deck, and its tandems are these
  pub table : (j k : ℕ) → j < 120 → k < 3 → trial_table.ordinate j k ≡ (even_deck 120).ordinate j k
  pub places : (k : ℕ) → k < 3 → trial_table.place k ≡ (even_deck 120).place k
  pub tandems : (w : ℕ) (kind : LoadKind) → Tandems (trial w kind) (λ _. trial_tandem)
  -- w = 29 is refused 5
  pub w29 : open_cause 120 (kerbs_of 0 29) ≡ Some Kerbs
  pub five : (job_told Kerbs).number ≡ 5
  -- w = 30 gives one lane
  pub w30_taken : open_cause 120 (kerbs_of 0 30) ≡ None
  pub w30_lanes : LanesAre 30 1 60
  pub w30 : Wins 30 (0 ∷ []) 166800000000000
  -- w = 53 has lane 1 at slice 46 in figure and at 0 in drawing
  pub w53 : Wins 53 (46 ∷ []) 178300000000000
  pub w53_drawn : WinsDrawn 53 (0 ∷ []) 178300000000000
  -- w = 54 has two lanes of 54 slices
  pub w54_lanes : LanesAre 54 2 54
  pub w54 : Wins 54 (0 ∷ 54 ∷ []) 250100000000000
  -- 1,000 mm from 2 to -1, from 1 to -1, and from 0 to -1
  pub falling : (j : ℕ) → area_of (one_metre (pos 2) (negsuc 0)) j ≡ 1334
  pub halving : (j : ℕ) → area_of (one_metre (pos 1) (negsuc 0)) j ≡ 500
  pub hanging : (j : ℕ) → area_of (one_metre (pos 0) (negsuc 0)) j ≡ 0
  -- a last place of 1,199 leaves no room for a tandem, and one of 1,200 for the rear place 0 alone
  pub no_room : (d : Line) → last d ≡ 1199 → (a b : ℕ) → Stands d a b → ⊥
  pub just_room : (d : Line) → last d ≡ 1200 → (a b : ℕ) → Stands d a b → a ≡ 0
  pub room : (d : Line) → last d ≡ 1200 → Stands d 0 1
  -- a lane of 55 slices has two wheels on each of two slices
  pub odd_lane : wheels 55 ≡ 7 ∷ 7 ∷ 47 ∷ 47 ∷ []
  -- paths 30 and 89 with 0 and -1: slice 31 has -1
  pub rounded_down : spread 2 (30 ∷ 89 ∷ []) (pos 0 ∷ negsuc 0 ∷ []) 31 ≡ negsuc 0

-- ---- what sheet prints of the trial table
pub record Printed : Type 0 where
  pub characteristic : trial_effect 60 Characteristic (0 ∷ 60 ∷ []) ≡ 257000000000000
  pub frequent : trial_effect 60 Frequent (0 ∷ 60 ∷ []) ≡ 168600000000000

-- ---- a wide deck with all five owners, and eight factors that all differ
abbrev pub mixed : Factors
mixed = record { tandem1 = 110; tandem2 = 120; tandem3 = 130; uniform1 = 60; uniform2 = 140; uniform3 = 150; others = 160; remaining = 170 }

-- 14.9 m: four lanes of 60 slices and 58 remaining slices on a deck of 300
abbrev pub wide : LoadKind → Setting
wide kind = record { surface = even_deck 300; kerbs = kerbs_of 1 149; factors = mixed; kind = kind }

-- from the left: 10 remaining slices, other lane, lane 2, 20 remaining, lane 3, lane 1, 28 remaining
abbrev pub wide_lanes : List ℕ
wide_lanes = 210 ∷ 70 ∷ 150 ∷ 10 ∷ []

-- T is 376,000,000 in every lane and A is 100,000,000 in every slice.
-- Characteristic, in units of 10^12: tandems 3000·110, 2000·120, 1000·130 times 376·10^6 = 124.08 + 90.24 + 48.88;
-- uniform loads 90·60·60, 25·140·60, 25·150·60, 25·160·60, 25·170·58 times 10^8 = 32.4 + 21 + 22.5 + 24 + 24.65; together 387.75.
-- Frequent: tandems 2250·110, 1500·120, 750·130 = 93.06 + 67.68 + 36.66;
-- uniform loads 36·60·60, 10·140·60, 10·150·60, 10·160·60, 10·170·58 = 12.96 + 8.4 + 9 + 9.6 + 9.86; together 247.22.
pub record Wide : Type 0 where
  pub lanes : LanesAre 149 4 60
  pub tandems : (kind : LoadKind) → Tandems (wide kind) (λ _. trial_tandem)
  pub characteristic : rounded_effect (wide Characteristic) (λ _. trial_tandem) (lanes_at wide_lanes) ≡ 387750000000000
  pub frequent : rounded_effect (wide Frequent) (λ _. trial_tandem) (lanes_at wide_lanes) ≡ 247220000000000
