-- What follows of exact and rounded effects: no arrangement beats the rounded effect of its lanes, and what is handed back comes near it.
use Rattle.std.specs.Prelude.{◌≡◌, ℕ, ◌≤◌, pos}
use Rattle.algebra.specs.Frac.{◌≤F◌, whole, ◌+F◌}
use Rattle.model.specs.declared.tandems.Tandem.{Tandem}
use Rattle.placing.specs.Kind.{Kind}
use Rattle.statement.specs.Lanes.{Starts, Numbered, Laid, owners_of}
use Rattle.statement.specs.Effects.{Setting, Arrangement, Permitted, exact, Tandems, rounded_effect, allowance, handed_back}
use Rattle.statement.specs.Winners.{Winner}

-- no arrangement has an exact effect above the rounded effect of its lanes
abbrev pub Bounded : Type 0
Bounded = (g : Setting) (tandems : ℕ → Tandem) → Tandems g tandems → (x : Arrangement) → Permitted g x → exact g x ≤F whole (pos (rounded_effect g tandems x.starts))

-- the arrangement that lanes and tandems show is permitted
abbrev pub Shown : Type 0
Shown = (g : Setting) (tandems : ℕ → Tandem) → Tandems g tandems → (starts : Starts) → Laid g.kerbs starts → Permitted g (handed_back g tandems starts)

-- and its exact effect is within the allowance
abbrev pub Near : Type 0
Near = (g : Setting) (tandems : ℕ → Tandem) → Tandems g tandems → (starts : Starts) → Laid g.kerbs starts
    → whole (pos (rounded_effect g tandems starts)) ≤F exact g (handed_back g tandems starts) +F whole (pos (allowance g tandems starts))

-- ---- owners tell the lanes

-- what two lanes with the same owners have in common
pub record SameShown (g : Setting) (tandems : ℕ → Tandem) (starts others : Starts) : Type 0 where
  pub lanes : (i : ℕ) → Numbered g.kerbs i → i ≤ 3 → starts i ≡ others i
  pub rounded : rounded_effect g tandems starts ≡ rounded_effect g tandems others
  pub handed : exact g (handed_back g tandems starts) ≡ exact g (handed_back g tandems others)
  pub allowed : allowance g tandems starts ≡ allowance g tandems others

-- so the arrangement handed back can be read from owners and tandems
abbrev pub OwnersTell : Type 0
OwnersTell = (g : Setting) (tandems : ℕ → Tandem) (starts others : Starts) → Laid g.kerbs starts → Laid g.kerbs others
    → owners_of g.kerbs starts ≡ owners_of g.kerbs others → SameShown g tandems starts others

-- and the winner's owners are unique
abbrev pub WinnerOnce : {W : Type 0} → Kind W → (ℕ → ℕ → W) → Type 0
WinnerOnce K made = (g : Setting) (tandems : ℕ → Tandem) (starts others : Starts) → Winner K made g tandems starts → Winner K made g tandems others
    → owners_of g.kerbs starts ≡ owners_of g.kerbs others
