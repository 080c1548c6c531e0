-- Every cause, computed.
use Rattle.std.proofs.Common.{refl, arith}
use Rattle.card.specs.Bounds.{in_bounds, some_reduced}
use Rattle.card.specs.Steps.{hundred}
use Rattle.card.specs.declared.calls.Call.TheVariants.{Factors as SetFactors, Reduce}
use Rattle.doubts.specs.Causes.{reduced, FactorRanges, CausesStand}

set_ranges : FactorRanges SetFactors hundred 80 100
unfolding in_bounds some_reduced
set_ranges = record {
  tandem1 = record { under = λ h. refl; lowest = refl; highest = refl; above = refl };
  tandem2 = record { under = λ h. absurd (omega arith); lowest = refl; highest = refl; above = refl };
  tandem3 = record { under = λ h. absurd (omega arith); lowest = refl; highest = refl; above = refl };
  uniform1 = record { under = λ h. refl; lowest = refl; highest = refl; above = refl };
  uniform2 = record { under = λ h. refl; lowest = refl; highest = refl; above = refl };
  uniform3 = record { under = λ h. refl; lowest = refl; highest = refl; above = refl };
  others = record { under = λ h. refl; lowest = refl; highest = refl; above = refl };
  remaining = record { under = λ h. absurd (omega arith); lowest = refl; highest = refl; above = refl };
}

reduce_ranges : FactorRanges Reduce reduced 40 40
unfolding in_bounds some_reduced
reduce_ranges = record {
  tandem1 = record { under = λ h. refl; lowest = refl; highest = refl; above = refl };
  tandem2 = record { under = λ h. absurd (omega arith); lowest = refl; highest = refl; above = refl };
  tandem3 = record { under = λ h. absurd (omega arith); lowest = refl; highest = refl; above = refl };
  uniform1 = record { under = λ h. refl; lowest = refl; highest = refl; above = refl };
  uniform2 = record { under = λ h. refl; lowest = refl; highest = refl; above = refl };
  uniform3 = record { under = λ h. refl; lowest = refl; highest = refl; above = refl };
  others = record { under = λ h. refl; lowest = refl; highest = refl; above = refl };
  remaining = record { under = λ h. absurd (omega arith); lowest = refl; highest = refl; above = refl };
}

pub causes : CausesStand
unfolding in_bounds some_reduced
causes = record {
  opens = record { narrowest = refl; narrower = refl; widest = refl; wider = refl; to_the_edge = refl; past_the_edge = refl };
  kerbs = record { narrowest = refl; narrower = refl; widest = refl; wider = refl; to_the_edge = refl; past_the_edge = refl };
  factors = record { ranges = set_ranges; open_duty = refl; open_first = refl };
  reduces = record {
    ranges = reduce_ranges;
    none_reduced = refl;
    none_at_bounds = refl;
    tandem1 = refl;
    uniform2 = refl;
    uniform3 = refl;
    others = refl;
    open_duty = refl;
    open_first = refl;
    last_duty = refl;
    one_too_many = refl;
    too_many_first = refl;
  };
  posts = record { the_open_one = refl; other_number = refl; other_serial = refl; none_open = refl; none_open_zero = refl; same_elsewhere = refl; later_elsewhere = refl; none_elsewhere = refl; numbered_elsewhere = refl };
  withdraws = record { the_open_one = refl; other_number = refl; other_serial = refl; none_open = refl; none_open_zero = refl; same_elsewhere = refl; later_elsewhere = refl; none_elsewhere = refl; numbered_elsewhere = refl };
  figures = λ kind. record { enough = refl; few_areas = refl; few_tandems = refl; few_bests = refl; few_owners = refl };
  drawings = λ kind. record { enough = refl; few_areas = refl; few_tandems = refl; few_bests = refl; few_owners = refl };
  five = refl;
  six = refl;
  seven = refl;
  eight = refl;
  nine = refl;
}
