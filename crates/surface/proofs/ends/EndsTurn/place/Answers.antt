use Rattle.std.proofs.Common.{◌-◌, arith}
use Rattle.surface.specs.Turns.{place_rises}
use Rattle.surface.proofs.ends.EndsTurn.place.Goals as goal

pub overflow_sub-result : goal.overflow_sub-result
overflow_sub-result g c =
    let w = g.S.Surface.lawful c.args.below.now in
    let a = c.in_ok-i.ensures in
    let b = c.in_ok-from.ensures in
    let e = c.in_ok-last.ensures in
    let t = place_rises _ w c.in_ok-i.i (c.stations-m.result - 1) (omega arith) (omega arith) in
    omega arith
