-- What the code's steps promise one another: entries that are ready, what is left after a part, and the first owner.
use Rattle.std.specs.Prelude.{◌≡◌, ℕ, ◌+◌, ◌*◌, ◌/◌, ◌%◌, ◌<◌, ◌≤◌, false, cond, List, ◌∷◌, length, Some, None, Option, ◌≢◌}
use Rattle.model.specs.Owners.{number_of}
use Rattle.model.specs.declared.owners.Owner.{Owner}
use Rattle.model.specs.declared.owners.Owner.TheVariants.{Lane1, Lane2, Lane3, Other}
use Rattle.placing.specs.Kind.{Kind}
use Rattle.placing.specs.Placing.{Road, hit, worth, Placement, Filled, Bounded}

-- the entries are long enough, and filled from number i on
pub record Ready {W : Type 0} (K : Kind W) (R : Road W) (i : ℕ) (bs : List (Option W)) : Type 0 where
  pub bounded : Bounded K R
  pub long : 24 * (R.slices + 1) ≤ length bs
  pub filled : Filled K R i bs

-- after a part of owner p what is left to place of m and o is m' and o'
pub record Taken (p : Owner) (m o m' o' : ℕ) : Type 0 where
  pub first : m % 2 ≡ hit p Lane1 + m' % 2
  pub second : m / 2 % 2 ≡ hit p Lane2 + m' / 2 % 2
  pub third : m / 4 % 2 ≡ hit p Lane3 + m' / 4 % 2
  pub others : o ≡ hit p Other + o'

-- the greater of two, the first where they are level
abbrev pub better : {W : Type 0} → Kind W → Option W → Option W → Option W
better K None b = b
better K (Some x) None = Some x
better K (Some x) (Some y) = Some (cond (K.below x y) y x)

-- p is the first owner that a placement of the greatest worth begins with
pub record Leads {W : Type 0} (K : Kind W) (R : Road W) (j m o : ℕ) (p : Owner) : Type 0 where
  pub rest : List Owner
  pub placed : Placement R j m o (p ∷ rest)
  pub greatest : (qs : List Owner) → Placement R j m o qs → K.below (worth K R j (p ∷ rest)) (worth K R j qs) ≡ false
  pub first : (q : Owner) (qs : List Owner) → number_of q < number_of p → Placement R j m o (q ∷ qs) → worth K R j (q ∷ qs) ≢ worth K R j (p ∷ rest)
