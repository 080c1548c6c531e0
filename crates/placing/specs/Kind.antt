-- A kind of worth, the laws of its order and sum, and worths made of an effect and a kerb count.
use Rattle.std.specs.Prelude.{◌≡◌, ℕ, ◌+◌, ◌≤◌, Bool, true, false}

-- A zero, a sum, an order by its strict test, and a weight that bounds what a machine number must hold.
pub record Kind (W : Type 0) : Type 0 where
  pub zero : W
  pub sum : W → W → W
  pub below : W → W → Bool
  pub weight : W → ℕ

pub record Laws {W : Type 0} (K : Kind W) : Type 0 where
  -- zero is neutral, and the sum is associative
  pub left : (x : W) → K.sum K.zero x ≡ x
  pub right : (x : W) → K.sum x K.zero ≡ x
  pub assoc : (x y z : W) → K.sum (K.sum x y) z ≡ K.sum x (K.sum y z)
  -- the order is total: strict one way at most, its complement chains, and neither way only between equals
  pub one_way : (x y : W) → K.below x y ≡ true → K.below y x ≡ false
  pub chain : (x y z : W) → K.below x y ≡ false → K.below y z ≡ false → K.below x z ≡ false
  pub only : (x y : W) → K.below x y ≡ false → K.below y x ≡ false → x ≡ y
  -- adding one worth to both sides keeps the order, strict where strict
  pub keeps_left : (a x y : W) → K.below (K.sum a x) (K.sum a y) ≡ K.below x y
  pub keeps_right : (a x y : W) → K.below (K.sum x a) (K.sum y a) ≡ K.below x y
  -- weights add up from nothing
  pub light : K.weight K.zero ≡ 0
  pub adds : (x y : W) → K.weight (K.sum x y) ≡ K.weight x + K.weight y

-- the two may be added in either order
abbrev pub Commutes : {W : Type 0} → Kind W → Type 0
Commutes {W} K = (x y : W) → K.sum x y ≡ K.sum y x

-- `made` is the worth of an effect and a kerb count: sums are made of sums, and the effect decides first
pub record Counts {W : Type 0} (K : Kind W) (made : ℕ → ℕ → W) : Type 0 where
  pub none : made 0 0 ≡ K.zero
  pub sums : (e k f l : ℕ) → K.sum (made e k) (made f l) ≡ made (e + f) (k + l)
  pub light : (e k : ℕ) → K.weight (made e k) ≤ e + k
  pub led : (e k f l : ℕ) → K.below (made e k) (made f l) ≡ false → f ≤ e
