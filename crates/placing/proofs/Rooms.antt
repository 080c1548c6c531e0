-- Where the lanes fit there is a placement.
use Rattle.std.proofs.Common.{◌≡◌, ℕ, zero, suc, ◌+◌, ◌-◌, ◌*◌, ◌/◌, ◌%◌, ◌<◌, ◌≤◌, List, [], ◌++◌, replicate, ap, ◌∙◌, add-mul, arith}
use lib.Count.{ones}
use Rattle.model.specs.declared.owners.Owner.{Owner}
use Rattle.model.specs.declared.owners.Owner.TheVariants.{Remaining, Lane1, Lane2, Lane3, Other}
use Rattle.placing.specs.Placing.{Road, width, span, times, hit, Placement}
use Rattle.placing.proofs.Sets.{digits}

-- c parts of the owner p in front
module _ (p : Owner) (qs : List Owner) where
  times_front : (k : Owner) (c : ℕ) → times k (replicate c p ++ qs) ≡ c * hit p k + times k qs
  times_front k zero = omega arith
  times_front k (suc c) = omega (arith, times_front k c, add-mul 1 c (hit p k))

  span_front : (L c : ℕ) → span L (replicate c p ++ qs) ≡ c * width L p + span L qs
  span_front L zero = omega arith
  span_front L (suc c) = omega (arith, span_front L c, add-mul 1 c (width L p))

pub some_placement : {W : Type 0} (R : Road W) (m o : ℕ) → m < 8 → (o + ones m) * R.lane ≤ R.slices → (ps : List Owner) × Placement R 0 m o ps
some_placement R m o low fits =
    let L = R.lane in
    let r = R.slices - (o + ones m) * L in
    let zs : List Owner = replicate r Remaining ++ [] in
    let fs : List Owner = replicate o Other ++ zs in
    let cs : List Owner = replicate (m / 4 % 2) Lane3 ++ fs in
    let bs : List Owner = replicate (m / 2 % 2) Lane2 ++ cs in
    let d = digits m low in
    let t : (k : Owner) → times k (replicate (m % 2) Lane1 ++ bs) ≡ (m % 2) * hit Lane1 k + (m / 2 % 2) * hit Lane2 k + (m / 4 % 2) * hit Lane3 k + o * hit Other k + r * hit Remaining k =
    λ k. omega (arith, times_front Lane1 bs k (m % 2), times_front Lane2 cs k (m / 2 % 2), times_front Lane3 fs k (m / 4 % 2), times_front Other zs k o, times_front Remaining [] k r) in
    let w : (o + ones m) * L ≡ o * L + ((m % 2) * L + (m / 2 % 2) * L + (m / 4 % 2) * L) =
    add-mul o (ones m) L ∙ ap (λ x. o * L + x) (ap (λ x. x * L) d.count ∙ add-mul (m % 2 + m / 2 % 2) (m / 4 % 2) L ∙ ap (λ x. x + (m / 4 % 2) * L) (add-mul (m % 2) (m / 2 % 2) L)) in (
      replicate (m % 2) Lane1 ++ bs,
      record {
        covers = omega (arith, w, span_front Lane1 bs L (m % 2), span_front Lane2 cs L (m / 2 % 2), span_front Lane3 fs L (m / 4 % 2), span_front Other zs L o, span_front Remaining [] L r);
        holds = record { first = omega (arith, t Lane1); second = omega (arith, t Lane2); third = omega (arith, t Lane3); others = omega (arith, t Other) };
      },
    )
