-- A tandem with one axle at a station: where its other axle is, and in which segment.
use Rattle.std.specs.Prelude.{◌≡◌, ℕ, ◌+◌, ◌-◌, ◌<◌, ◌≤◌, List, Some, None, Option, slice_index}
use Rattle.loads.specs.declared.others.Axle.{Axle}
use Rattle.loads.specs.declared.others.Axle.TheVariants.{Rear, Second}
use Rattle.loads.specs.declared.others.Other.{Other}
use Rattle.loads.specs.declared.others.Others.{Others}

-- with this axle at z, the tandem stands on a deck that ends at e
abbrev pub Fits : Axle → ℕ → ℕ → Type 0
Fits Rear z e = z + 1200 ≤ e
Fits Second z e = 1200 ≤ z

-- and the other axle stands there
abbrev pub other_place : Axle → ℕ → ℕ
other_place Rear z = z + 1200
other_place Second z = z - 1200

-- segment k of n stations holds the place z
pub record Under (n : ℕ) (zs : List ℕ) (k z : ℕ) : Type 0 where
  pub inside : k + 1 < n
  pub above : slice_index zs k ≤ z
  pub below : z ≤ slice_index zs (k + 1)

-- the other axle at an earlier station, if it stood: in its segment, and not past where it stands for this axle at station i
pub record Before (n : ℕ) (zs : List ℕ) (a : Axle) (i : ℕ) (o : Option Other) : Type 0 where
  pub held : (p : Other) → o ≡ Some p → Under n zs p.segment p.place
  pub behind : (p : Other) → o ≡ Some p → p.place ≤ other_place a (slice_index zs i)

-- the other axle of the tandem with this axle at station i, if it stands on the deck
pub record OtherIs (n : ℕ) (zs : List ℕ) (a : Axle) (i : ℕ) (o : Option Other) : Type 0 where
  pub found : (p : Other) → o ≡ Some p → Fits a (slice_index zs i) (slice_index zs (n - 1)) × (p.place ≡ other_place a (slice_index zs i)) × Under n zs p.segment p.place
  pub missing : o ≡ None → Fits a (slice_index zs i) (slice_index zs (n - 1)) → ⊥

pub record OthersAre (n : ℕ) (zs : List ℕ) (i : ℕ) (o : Others) : Type 0 where
  pub ahead : OtherIs n zs Rear i o.ahead
  pub behind : OtherIs n zs Second i o.behind
