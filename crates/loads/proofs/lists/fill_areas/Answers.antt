use Rattle.std.proofs.Common.{◌≡◌, length, ◌∙◌, arith, length-take-le}
use Rattle.loads.proofs.Each.{written, beyond}
use Rattle.loads.proofs.Deck.{area_is}
use Rattle.loads.proofs.lists.fill_areas.Goals as goal

pub returns : goal.returns
returns c = λ s r.
    let n = c.slices-slices.ensures in
    let e : length c.loop-j.area-items ≡ c.slices-slices.result = omega (arith, c.loop-j.auto.area-items, length-take-le c.slices-slices.result c.args.areas.now (omega arith)) in
    record {
      filled = λ j h. area_is s c.args.carriageway c.args.grid.now r j _ h (written c.loop-j.area-items c.args.areas.now _ 0 e j (omega arith) ∙ c.loop-j.invariant j (omega arith));
      beyond = λ j h. beyond c.loop-j.area-items c.args.areas.now _ 0 e j (omega arith);
    }
