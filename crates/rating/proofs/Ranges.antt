-- What the bounds of factors say.
use Rattle.std.proofs.Common.{◌≡◌, ℕ, ◌≤◌, Bool, true, ◌&&◌, refl, arith}
use Rattle.std.proofs.lemmas.Bool.Decides.{nat_tests}
use Rattle.std.proofs.lemmas.Bool.{and_parts}
use Rattle.model.specs.declared.weights.Factors.{Factors}
use Rattle.card.specs.Bounds.{in_range, in_bounds, some_reduced}
use Rattle.card.specs.Steps.{hundred}

and_map : (a b a' b' : Bool) → (a ≡ true → a' ≡ true) → (b ≡ true → b' ≡ true) → (a && b) ≡ true → (a' && b') ≡ true
and_map a b a' b' f g h = let p = and_parts a b h in let x = f p.0 in let y = g p.1 in rw (x, y)

wider : (lo' lo x : ℕ) → lo' ≤ lo → in_range lo 200 x ≡ true → in_range lo' 200 x ≡ true
wider lo' lo x h e = grind (arith, nat_tests)

-- what is in bounds without a reduction is in bounds with one
pub bounds_reduced : (f : Factors) → in_bounds 80 100 f ≡ true → in_bounds 40 40 f ≡ true
unfolding in_bounds
bounds_reduced f = and_map _ _ _ _ (wider 40 80 f.tandem1 (omega arith)) (and_map _ _ _ _ (wider 0 0 f.tandem2 (omega arith)) (and_map _ _ _ _ (wider 0 0 f.tandem3 (omega arith)) (and_map _ _ _ _ (wider 40 40 f.uniform1 (omega arith)) (and_map _ _ _ _ (wider 40 100 f.uniform2 (omega arith)) (and_map _ _ _ _ (wider 40 100 f.uniform3 (omega arith)) (and_map _ _ _ _ (wider 40 100 f.others (omega arith)) (wider 0 0 f.remaining (omega arith))))))))

pub reduced_bounds : (f : Factors) → (in_bounds 40 40 f && some_reduced f) ≡ true → in_bounds 40 40 f ≡ true
reduced_bounds f h = (and_parts (in_bounds 40 40 f) (some_reduced f) h).0

pub hundred_bounds : in_bounds 40 40 hundred ≡ true
unfolding in_bounds
hundred_bounds = refl
