use Rattle.std.proofs.Common.{◌≡◌, MatchOption, rules, arith}
use Rattle.loads.specs.declared.others.Other.{Other}
use Rattle.loads.proofs.Axles.{on_deck, begins}
use Rattle.loads.proofs.stations.Stations.other.Goals as goal

pub segment_under-segment-requires : goal.segment_under-segment-requires
segment_under-segment-requires c =
    let s = c.args.self.now in
    let e : MatchOption c.args.before (c.map_or-from.result ≡ 0) (λ (o : Other). c.map_or-from.result ≡ o.segment) = search rules in
    let b = begins s.count s.places s.placed c.args.axle c.args.i c.args.before c.requires.before c.map_or-from.result e in
    record {
      inside = b.0;
      after = omega (arith, b.1, c.in_ok-place.ensures.1);
      on = on_deck s.count s.places s.placed c.args.axle c.args.i c.in_ok-place.place c.requires.there c.in_ok-place.ensures.0 c.in_ok-place.ensures.1;
    }
