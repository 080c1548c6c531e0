-- The loads that a loaded carriageway holds, over the lists lent to it.
use Rattle.std.specs.Prelude.{slice_index, slice_index_or}
use Rattle.model.specs.Tandems.{no_tandem}
use Rattle.placing.specs.Loaded.{Loads}
use Rattle.loaded.specs.declared.loads.LoadedCarriageway.{LoadedCarriageway}

abbrev pub loads_of : LoadedCarriageway → Loads
loads_of c = record {
  slices = c.slices;
  lane = c.lane;
  kind = c.kind;
  factors = c.factors;
  area = λ j. slice_index c.areas.now j;
  top = λ j. (slice_index_or c.tandems.now j no_tandem).t;
}
