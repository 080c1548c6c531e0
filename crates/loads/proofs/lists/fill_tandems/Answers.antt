use Rattle.std.proofs.Common.{◌≡◌, ℕ, length, ◌∙◌, sym, subst, arith, length-take-le}
use Rattle.model.proofs.Tables.{lane_range}
use Rattle.model.specs.declared.tandems.Tandem.{Tandem}
use Rattle.model.specs.Lanes.{breadth, lane_slices}
use Rattle.model.specs.Tandems.{no_tandem}
use Rattle.loads.specs.Filled.{TandemAt}
use Rattle.loads.proofs.Each.{fill_more, written, beyond}
use Rattle.loads.proofs.Deck.{lane_is}
use Rattle.loads.proofs.lists.fill_tandems.Goals as goal

pub loop-x-preserved : goal.loop-x-preserved
loop-x-preserved c =
    let g = c.args.grid.now in
    let road = c.args.carriageway in
    fill_more (λ (x : ℕ) (t : Tandem). TandemAt g.stations.count g.stations.places g.heights (breadth road) (lane_slices road.width) x t) c.loop-x.tandem-items c.loop-x.x c.tandem.result no_tandem
    (omega arith) c.loop-x.invariant c.tandem.ensures

pub returns : goal.returns
returns c = λ s r.
    let g = c.args.grid.now in
    let road = c.args.carriageway in
    let n = c.slices-slices.ensures in
    let wide = (lane_range road.width).0 in
    let ts = c.loop-x.tandem-items in
    let e : length ts ≡ c.slices-slices.result = omega (arith, c.loop-x.auto.tandem-items, length-take-le c.slices-slices.result c.args.tandems.now (omega arith)) in
    record {
      starts = λ x h. lane_is s road g r x h _
          (subst (λ (t : Tandem). TandemAt g.stations.count g.stations.places g.heights (breadth road) (lane_slices road.width) x t) (sym (written ts c.args.tandems.now _ no_tandem e x (omega arith))) (c.loop-x.invariant x (omega arith)));
      rest = λ x h k. written ts c.args.tandems.now _ no_tandem e x (omega arith) ∙ (c.loop-x.invariant x (omega arith)).none k;
      beyond = λ x h. beyond ts c.args.tandems.now _ no_tandem e x (omega arith);
    }
