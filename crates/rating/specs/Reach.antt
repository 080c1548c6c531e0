-- How far the lists of a run are lent: no further than kerbs can ask for, and owners and tandems no further than these kerbs.
use Rattle.std.specs.Prelude.{min}
use Rattle.model.specs.Lanes.{breadth}
use Rattle.model.specs.declared.lanes.Carriageway.{Carriageway}
use Rattle.card.specs.declared.calls.Lengths.{Lengths}

abbrev pub reached : Carriageway → Lengths → Lengths
reached k l = record {
  areas = min l.areas 300;
  tandems = min l.tandems (min (breadth k) 300);
  bests = min l.bests 7224;
  owners = min l.owners (min (breadth k) 300);
}
