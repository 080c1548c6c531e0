-- The five owners, by their numbers.
use Rattle.std.proofs.Common.{◌≡◌, ℕ, zero, suc, ◌+◌, ◌*◌, ◌<◌, ◌≤◌, sym, refl, ap, ◌∙◌, one-mul, arith}
use Rattle.model.specs.Owners.{number_of}
use Rattle.model.specs.declared.owners.Owner.{Owner}
use Rattle.model.specs.declared.owners.Owner.TheVariants.{Remaining, Lane1, Lane2, Lane3, Other}
use Rattle.placing.specs.Placing.{width, hit}

owner_of : ℕ → Owner
owner_of zero = Remaining
owner_of (suc zero) = Lane1
owner_of (suc (suc zero)) = Lane2
owner_of (suc (suc (suc zero))) = Lane3
owner_of (suc (suc (suc (suc n)))) = Other

owner_number : (p : Owner) → owner_of (number_of p) ≡ p
unfolding owner_of
owner_number Remaining = refl
owner_number Lane1 = refl
owner_number Lane2 = refl
owner_number Lane3 = refl
owner_number Other = refl

-- no two owners have one number
pub same_owner : (p q : Owner) → number_of p ≡ number_of q → p ≡ q
same_owner p q e = sym (owner_number p) ∙ ap owner_of e ∙ owner_number q

pub number_low : (p : Owner) → number_of p < 5
number_low Remaining = omega arith
number_low Lane1 = omega arith
number_low Lane2 = omega arith
number_low Lane3 = omega arith
number_low Other = omega arith

pub width_pos : (L : ℕ) (p : Owner) → 1 ≤ L → 1 ≤ width L p
width_pos L Remaining h = omega arith
width_pos L Lane1 h = h
width_pos L Lane2 h = h
width_pos L Lane3 h = h
width_pos L Other h = h

pub width_low : (L : ℕ) (p : Owner) → 1 ≤ L → width L p ≤ L
width_low L Remaining h = h
width_low L Lane1 h = omega arith
width_low L Lane2 h = omega arith
width_low L Lane3 h = omega arith
width_low L Other h = omega arith

-- a lane takes its slices
pub lane_slices : (L : ℕ) (p : Owner) → (hit p Lane1 + hit p Lane2 + hit p Lane3 + hit p Other) * L ≤ width L p
lane_slices L Remaining = omega arith
lane_slices L Lane1 = omega (arith, one-mul L)
lane_slices L Lane2 = omega (arith, one-mul L)
lane_slices L Lane3 = omega (arith, one-mul L)
lane_slices L Other = omega (arith, one-mul L)
