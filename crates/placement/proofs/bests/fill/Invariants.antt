-- Entries from i on are filled, and those past the last are as they were.
use Rattle.std.proofs.Common.{◌≡◌, ◌+◌, ◌*◌, drop}
use Rattle.placing.specs.Placing.{Filled}
use Rattle.placement.proofs.bests.fill.Given as goal

abbrev pub invariant-loop-i : goal.invariant-loop-i
invariant-loop-i g l =
    let R = g.P.Parts.road l.parts in
    Filled g.W.Worth.kind R l.i l.bests × (drop (24 * (R.slices + 1)) l.bests ≡ drop (24 * (R.slices + 1)) l.initial.bests)
