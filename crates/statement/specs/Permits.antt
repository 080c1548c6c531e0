-- Permitted is not too narrow: lanes in every order, rear places between stations, several stretches in a segment, no tandem at all.
use Rattle.std.specs.Prelude.{◌≡◌, ℕ, ◌+◌, ◌-◌, ◌*◌, ◌<◌, ◌≤◌, cond, List, [], ◌∷◌, Some, None, Option, ◌==◌}
use Rattle.model.specs.Lanes.{breadth, lanes_in, lane_slices}
use Rattle.model.specs.declared.lanes.Carriageway.{Carriageway}
use Rattle.lines.specs.Segments.{Stretch, Loading}
use Rattle.statement.specs.Lanes.{Starts, Numbered, Laid}
use Rattle.statement.specs.Effects.{Setting, Place, Permitted}

-- the lane of number i is lane number order i from the left, counted from 0; each has a place of its own
pub record Order (k : Carriageway) (order : ℕ → ℕ) : Type 0 where
  pub among : (i : ℕ) → Numbered k i → order i < lanes_in k.width
  pub own : (i j : ℕ) → Numbered k i → Numbered k j → order i ≡ order j → i ≡ j

-- Lanes side by side, in every order of their numbers, are laid, as far from the left kerb as there is room for:
-- at the left kerb, at the right one, or at neither.
abbrev pub EveryOrder : Type 0
EveryOrder = (k : Carriageway) (order : ℕ → ℕ) → Order k order → (from : ℕ) → from + lanes_in k.width * lane_slices k.width ≤ breadth k
    → Laid k (λ i. from + order i * lane_slices k.width)

-- a tandem in lane i alone
abbrev pub one_tandem : ℕ → Place → ℕ → Option Place
one_tandem i p j = cond (j == i) (Some p) None

-- in each of lanes 1 to 3 a tandem may stand at every fraction num / den that leaves room for its second axle
abbrev pub EveryPlace : Type 0
EveryPlace = (g : Setting) (starts : Starts) → Laid g.kerbs starts → (load : ℕ → ℕ → Loading) (i num den : ℕ) → i ≤ 3 → 0 < den → num + 1200 * den ≤ g.surface.place (g.surface.stations - 1) * den
    → Permitted g (record { starts = starts; tandem = one_tandem i (record { num = num; den = den }); load = load })

-- and there need be none
abbrev pub NoTandem : Type 0
NoTandem = (g : Setting) (starts : Starts) → Laid g.kerbs starts → (load : ℕ → ℕ → Loading) → Permitted g (record { starts = starts; tandem = λ i. None; load = load })

-- a loading with these parts and stretches
pub record LoadedOn (m : ℕ) (stretches : List Stretch) : Type 0 where
  pub loading : Loading
  pub parts : loading.parts ≡ m
  pub same : loading.stretches ≡ stretches

abbrev pub stretch : ℕ → ℕ → Stretch
stretch p q = record { from = p; to = q }

-- a segment may be loaded on no stretch, on one, and on several with gaps between them
pub record EveryLoading : Type 0 where
  pub none : (m : ℕ) → 0 < m → LoadedOn m []
  pub one : (m p q : ℕ) → 0 < m → p ≤ q → q ≤ m → LoadedOn m (stretch p q ∷ [])
  pub two : (m p q r s : ℕ) → 0 < m → p ≤ q → q ≤ r → r ≤ s → s ≤ m → LoadedOn m (stretch p q ∷ stretch r s ∷ [])
  pub three : (m p q r s t u : ℕ) → 0 < m → p ≤ q → q ≤ r → r ≤ s → s ≤ t → t ≤ u → u ≤ m → LoadedOn m (stretch p q ∷ stretch r s ∷ stretch t u ∷ [])
