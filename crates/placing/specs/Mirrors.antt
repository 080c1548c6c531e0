-- A carriageway seen from the other kerb, and what stays the same.
use Rattle.std.specs.Prelude.{◌≡◌, ℕ, ◌+◌, ◌-◌, ◌≤◌, Option}
use Rattle.model.specs.declared.owners.Owner.{Owner}
use Rattle.placing.specs.Kind.{Kind, Commutes}
use Rattle.placing.specs.Placing.{Road, width, Best}

-- each part of S is worth what the part of the same owner as far from the other kerb is worth in R
pub record Mirrored {W : Type 0} (R S : Road W) : Type 0 where
  pub slices : S.slices ≡ R.slices
  pub lane : S.lane ≡ R.lane
  pub part : (p : Owner) (j : ℕ) → j + width R.lane p ≤ R.slices → S.part p (R.slices - j - width R.lane p) ≡ R.part p j

-- the best worth over R is r, and so it is over every carriageway that mirrors R, where worths may be added in either order
abbrev pub SameMirrored : {W : Type 0} → Kind W → Road W → ℕ → ℕ → Option W → Type 0
SameMirrored {W} K R m o r = Commutes K → (S : Road W) → Mirrored R S → (s : Option W) → Best K S 0 m o s → s ≡ r
