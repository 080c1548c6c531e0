-- A level deck keeps within the bounds of loads.
use Rattle.std.proofs.Common.{ℕ, ◌<◌, ◌≤◌, replicate, Some, sym, subst, arith}
use Rattle.std.proofs.lemmas.List.{get_or-replicate}
use Rattle.std.proofs.lemmas.Bool.Decides.{nat_tests}
use Rattle.model.specs.Tandems.{no_tandem}
use Rattle.model.specs.declared.owners.Owner.TheVariants.{Remaining, Lane1, Lane2, Lane3, Other}
use Rattle.model.specs.declared.tandems.Tandem.{Tandem}
use Rattle.model.specs.declared.weights.Factors.{Factors}
use Rattle.model.specs.declared.weights.LoadKind.TheVariants.{Characteristic}
use Rattle.model.specs.declared.owners.Owner.{Owner}
use Rattle.model.specs.Weights.{tandem_factor, uniform_factor}
use Rattle.placing.specs.Loaded.{loads_over, Low, most_area, most_top}

abbrev even : Factors
even = record { tandem1 = 100; tandem2 = 100; tandem3 = 100; uniform1 = 100; uniform2 = 100; uniform3 = 100; others = 100; remaining = 100 }

abbrev tandem : Tandem
tandem = record { t = 376000000; place = Some 8800 }

tandem_even : (p : Owner) → tandem_factor even p ≤ 200
tandem_even Remaining = omega arith
tandem_even Lane1 = omega arith
tandem_even Lane2 = omega arith
tandem_even Lane3 = omega arith
tandem_even Other = omega arith

uniform_even : (p : Owner) → uniform_factor even p ≤ 200
uniform_even Remaining = omega arith
uniform_even Lane1 = omega arith
uniform_even Lane2 = omega arith
uniform_even Lane3 = omega arith
uniform_even Other = omega arith

pub level_low : (w : ℕ) → 30 ≤ w → w ≤ 150 → Low (loads_over (record { first = 0; width = w }) Characteristic even (replicate 300 100000000) (replicate 300 tandem))
level_low w wide narrow = record {
  few = omega arith;
  wide = grind (arith, nat_tests);
  narrow = grind (arith, nat_tests);
  areas = λ j h. let lt : j < 300 = omega arith in subst (λ (x : ℕ). x ≤ most_area) (sym (get_or-replicate 300 j 100000000 0 lt)) (omega arith);
  tops = λ j h. let lt : j < 300 = omega arith in subst (λ (x : Tandem). x.t ≤ most_top) (sym (get_or-replicate 300 j tandem no_tandem lt)) (omega arith);
  tandem_factors = tandem_even;
  uniform_factors = uniform_even;
}
