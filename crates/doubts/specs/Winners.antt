-- The order of lanes matters: on a deck that leans to the right, lanes 2, 1 from the left have more effect than lanes 1, 2.
use Rattle.std.specs.Prelude.{ℕ, ◌<◌, List, [], ◌∷◌, pos}
use Rattle.surface.specs.Shape.{Shape, Lawful}
use Rattle.edge.specs.Edges.{edge_shape}
use Rattle.edge.specs.declared.station.Station.{Station}
use Rattle.card.specs.Steps.{hundred}
use Rattle.model.specs.declared.tandems.Tandem.{Tandem}
use Rattle.model.specs.declared.weights.LoadKind.{LoadKind}
use Rattle.worths.specs.Kinds.{effect_kind, kerbed_kind, kerbed}
use Rattle.statement.specs.Lanes.{Laid}
use Rattle.statement.specs.Effects.{Setting, Tandems, rounded_effect}
use Rattle.statement.specs.Winners.{Winner}
use Rattle.decks.specs.Decks.{kerbs_of, lanes_at}

-- the trial line: 20 m, with the ordinate 5,000 in the middle
abbrev pub trial_line : List Station
trial_line = record { place = pos 0; ordinate = pos 0 } ∷ record { place = pos 10000; ordinate = pos 5000 } ∷ record { place = pos 20000; ordinate = pos 0 } ∷ []

-- shared out over 120 slices, from nothing at the left edge to all at the right
abbrev pub leaning : Shape
leaning = edge_shape 120 (pos 0) (pos 1000) trial_line

abbrev pub leaning_setting : LoadKind → Setting
leaning_setting kind = record { surface = leaning; kerbs = kerbs_of 0 60; factors = hundred; kind = kind }

-- lane 1 left of lane 2, and right of it
abbrev pub one_two : ℕ → ℕ
one_two = lanes_at (0 ∷ 60 ∷ [])

abbrev pub two_one : ℕ → ℕ
two_one = lanes_at (60 ∷ 0 ∷ [])

-- there are tandems for every kind of load, and with any such
pub record Differ (kind : LoadKind) : Type 0 where
  pub known : (tandems : ℕ → Tandem) × Tandems (leaning_setting kind) tandems
  pub less : (tandems : ℕ → Tandem) → Tandems (leaning_setting kind) tandems → rounded_effect (leaning_setting kind) tandems one_two < rounded_effect (leaning_setting kind) tandems two_one
  -- so lanes 1, 2 from the left win neither a figure nor a drawing
  pub no_figure : (tandems : ℕ → Tandem) → Tandems (leaning_setting kind) tandems → Winner effect_kind (λ e k. e) (leaning_setting kind) tandems one_two → ⊥
  pub no_drawing : (tandems : ℕ → Tandem) → Tandems (leaning_setting kind) tandems → Winner kerbed_kind kerbed (leaning_setting kind) tandems one_two → ⊥

pub record WinnersDiffer : Type 0 where
  pub lawful : Lawful leaning
  pub left_laid : Laid (kerbs_of 0 60) one_two
  pub right_laid : Laid (kerbs_of 0 60) two_one
  pub differ : (kind : LoadKind) → Differ kind
