-- What the tests on kerbs, on the lengths of lists and on factors say.
use Rattle.std.proofs.Common.{◌≡◌, ℕ, ◌+◌, ◌*◌, ◌≤◌, true, leb, arith}
use Rattle.std.proofs.lemmas.Bool.{and_parts, leb-true}
use Rattle.card.specs.Bounds.{kerbs_fit, in_range, in_bounds}
use Rattle.card.specs.Steps.{long_enough}
use Rattle.card.specs.declared.calls.Lengths.{Lengths}
use Rattle.model.specs.Lanes.{breadth}
use Rattle.model.specs.Weights.{tandem_factor, uniform_factor}
use Rattle.model.specs.declared.lanes.Carriageway.{Carriageway}
use Rattle.model.specs.declared.owners.Owner.{Owner}
use Rattle.model.specs.declared.owners.Owner.TheVariants.{Remaining, Lane1, Lane2, Lane3, Other}
use Rattle.model.specs.declared.weights.Factors.{Factors}

-- where kerbs fit on a deck of n slices
pub record Fit (n : ℕ) (k : Carriageway) : Type 0 where
  pub wide : 30 ≤ k.width
  pub narrow : k.width ≤ 150
  pub inside : k.first + breadth k ≤ n

pub fits : (n : ℕ) (k : Carriageway) → kerbs_fit n k ≡ true → Fit n k
fits n k h =
    let a = and_parts (leb 30 k.width) _ h in
    let b = and_parts (leb k.width 150) _ a.1 in
    record { wide = leb-true _ _ a.0; narrow = leb-true _ _ b.0; inside = leb-true _ _ b.1 }

-- where lists reach as far as the carriageway asks
pub record Reach (k : Carriageway) (l : Lengths) : Type 0 where
  pub areas : breadth k ≤ l.areas
  pub tandems : breadth k ≤ l.tandems
  pub bests : 24 * (breadth k + 1) ≤ l.bests
  pub owners : breadth k ≤ l.owners

pub reach : (k : Carriageway) (l : Lengths) → long_enough k l ≡ true → Reach k l
reach k l h =
    let a = and_parts (leb (breadth k) l.areas) _ h in
    let b = and_parts (leb (breadth k) l.tandems) _ a.1 in
    let c = and_parts (leb (24 * (breadth k + 1)) l.bests) _ b.1 in
    record { areas = leb-true _ _ a.0; tandems = leb-true _ _ b.0; bests = leb-true _ _ c.0; owners = leb-true _ _ c.1 }

within : (lo hi x : ℕ) → in_range lo hi x ≡ true → x ≤ hi
within lo hi x h = leb-true x hi (and_parts (leb lo x) _ h).1

-- every factor is at most 200
pub record EachLow (f : Factors) : Type 0 where
  pub tandem1 : f.tandem1 ≤ 200
  pub tandem2 : f.tandem2 ≤ 200
  pub tandem3 : f.tandem3 ≤ 200
  pub uniform1 : f.uniform1 ≤ 200
  pub uniform2 : f.uniform2 ≤ 200
  pub uniform3 : f.uniform3 ≤ 200
  pub others : f.others ≤ 200
  pub remaining : f.remaining ≤ 200

pub each_low : (f : Factors) → in_bounds 40 40 f ≡ true → EachLow f
unfolding in_bounds
each_low f h =
    let t1 = and_parts (in_range 40 200 f.tandem1) _ h in
    let t2 = and_parts (in_range 0 200 f.tandem2) _ t1.1 in
    let t3 = and_parts (in_range 0 200 f.tandem3) _ t2.1 in
    let u1 = and_parts (in_range 40 200 f.uniform1) _ t3.1 in
    let u2 = and_parts (in_range 40 200 f.uniform2) _ u1.1 in
    let u3 = and_parts (in_range 40 200 f.uniform3) _ u2.1 in
    let un = and_parts (in_range 40 200 f.others) _ u3.1 in
    record {
      tandem1 = within 40 200 f.tandem1 t1.0;
      tandem2 = within 0 200 f.tandem2 t2.0;
      tandem3 = within 0 200 f.tandem3 t3.0;
      uniform1 = within 40 200 f.uniform1 u1.0;
      uniform2 = within 40 200 f.uniform2 u2.0;
      uniform3 = within 40 200 f.uniform3 u3.0;
      others = within 40 200 f.others un.0;
      remaining = within 0 200 f.remaining un.1;
    }

pub tandem_factor_low : (f : Factors) → EachLow f → (p : Owner) → tandem_factor f p ≤ 200
tandem_factor_low f b Remaining = omega arith
tandem_factor_low f b Lane1 = b.tandem1
tandem_factor_low f b Lane2 = b.tandem2
tandem_factor_low f b Lane3 = b.tandem3
tandem_factor_low f b Other = omega arith

pub uniform_factor_low : (f : Factors) → EachLow f → (p : Owner) → uniform_factor f p ≤ 200
uniform_factor_low f b Remaining = b.remaining
uniform_factor_low f b Lane1 = b.uniform1
uniform_factor_low f b Lane2 = b.uniform2
uniform_factor_low f b Lane3 = b.uniform3
uniform_factor_low f b Other = b.others
