-- What a figure shares with the figure of the same loads from the other kerb.
use Rattle.std.specs.Prelude.{◌≡◌, ℕ, Some, Option}
use Rattle.placing.specs.Placing.{Best}
use Rattle.placing.specs.Loaded.{Loads, loaded, LoadsMirrored}
use Rattle.worths.specs.Kinds.{effect_kind}

-- the best effect over areas and tandems that lie mirrored is e too
abbrev pub SameFigure : Loads → ℕ → ℕ → ℕ → Type 0
SameFigure l m o e = (k : Loads) → LoadsMirrored l k → (s : Option ℕ) → Best effect_kind (loaded (λ x c. x) k) 0 m o s → s ≡ Some e
