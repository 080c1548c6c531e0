-- What is lent to a figure or a drawing, and what it is asked for.
use Rattle.std.specs.Prelude.{ℕ, List, length, Option}
use Rattle.card.specs.declared.calls.Lengths.{Lengths}
use Rattle.model.specs.declared.lanes.Carriageway.{Carriageway}
use Rattle.model.specs.declared.tandems.Tandem.{Tandem}
use Rattle.model.specs.declared.weights.Factors.{Factors}
use Rattle.model.specs.declared.weights.LoadKind.{LoadKind}
use Rattle.surface.specs.Shape.{Shape}
use Rattle.statement.specs.Effects.{Setting}
use Rattle.statement.specs.Figures.{Lists}

abbrev pub setting : Shape → Carriageway → Factors → LoadKind → Setting
setting s kerbs factors kind = record { surface = s; kerbs = kerbs; factors = factors; kind = kind }

abbrev pub lent : {W : Type 0} → List ℕ → List Tandem → List (Option W) → List ℕ → Lists W
lent areas tandems bests owners = record { areas = areas; tandems = tandems; bests = bests; owners = owners }

abbrev pub lengths : {W : Type 0} → List ℕ → List Tandem → List (Option W) → List ℕ → Lengths
lengths areas tandems bests owners = record { areas = length areas; tandems = length tandems; bests = length bests; owners = length owners }
