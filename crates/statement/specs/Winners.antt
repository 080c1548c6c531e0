-- What lanes are worth, and which lanes win.
use Rattle.std.specs.Prelude.{◌≡◌, ℕ, false}
use Rattle.model.specs.declared.tandems.Tandem.{Tandem}
use Rattle.placing.specs.Kind.{Kind}
use Rattle.placing.specs.Placing.{Before}
use Rattle.statement.specs.Lanes.{Starts, Laid, owners_of}
use Rattle.statement.specs.Effects.{Setting, rounded_effect, kerb_count}

module _ {W : Type 0} (K : Kind W) (made : ℕ → ℕ → W) (g : Setting) (tandems : ℕ → Tandem) where
  -- the worth that is made of the rounded effect and the kerb count
  abbrev pub lanes_worth : Starts → W
  lanes_worth starts = made (rounded_effect g tandems starts) (kerb_count g starts)

  -- no lanes are worth more, and of equals none has owners that come earlier, slice by slice from the left
  pub record Winner (starts : Starts) : Type 0 where
    pub laid : Laid g.kerbs starts
    pub greatest : (others : Starts) → Laid g.kerbs others → K.below (lanes_worth starts) (lanes_worth others) ≡ false
    pub first : (others : Starts) → Laid g.kerbs others → lanes_worth others ≡ lanes_worth starts → Before (owners_of g.kerbs starts) (owners_of g.kerbs others)
