-- Lists long enough for any carriageway.
use Rattle.card.specs.declared.calls.Lengths.{Lengths}

abbrev pub ample : Lengths
ample = record { areas = 300; tandems = 300; bests = 7224; owners = 300 }
