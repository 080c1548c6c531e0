-- The first owner that reaches the best worth leads, and some owner does.
use Rattle.std.proofs.Common.{◌≡◌, sym, ◌∙◌, arith}
use Rattle.placing.proofs.Chosen.{passed_more, lower, leads, not_all_passed}
use Rattle.placement.proofs.Places.{place_number}
use Rattle.placement.proofs.entries.Entries.first_owner.Goals as goal
use Rattle.placement.proofs.entries.Entries.first_owner.Goals.{in-Some+else-not-is_below, in_default}

pub returns-then-not-is_below : goal.returns-then-not-is_below
returns-then-not-is_below g c =
    let R = g.P.Parts.road c.args.self.now.parts.now in
    let n = place_number c.loop-owner.owner-index _ c.loop-owner-test.true in
    leads g.W.Worth.kind g.met.W.Worth.lawful R c.args.rest.at c.args.rest.left.numbered c.args.rest.left.others c.known_best-best.result c.in-Some.worth _ c.loop-owner.owner-index n c.known_best-best.ensures c.in-Some.ensures (sym c.is_below.ensures ∙ c.if-not-is_below.true) c.loop-owner.invariant

pub loop-owner-preserved : goal.loop-owner-preserved
loop-owner-preserved g c =
    let K = g.W.Worth.kind in
    let L = g.met.W.Worth.lawful in
    let R = g.P.Parts.road c.args.self.now.parts.now in
    let l = c.args.rest.left in
    let n = place_number c.loop-owner.owner-index _ c.loop-owner-test.true in
    passed_more K L R c.args.rest.at l.numbered l.others c.known_best-best.result _ c.loop-owner.owner-index n c.loop-owner.invariant
    (elim c.match-begun.branch [
      | in-Some+else-not-is_below w ↦ lower K L R c.args.rest.at l.numbered l.others c.known_best-best.result w.in-Some.worth _ w.in-Some.ensures (sym w.is_below.ensures ∙ w.if-not-is_below.false)
      | in_default w ↦ λ qs p e. w.in_default.ensures qs p
    ])

pub unreachable-requires : goal.unreachable-requires
unreachable-requires g c =
    let R = g.P.Parts.road c.args.self.now.parts.now in
    let five : c.loop-owner.owner-index ≡ 5 = omega arith in
    not_all_passed g.W.Worth.kind g.met.W.Worth.lawful R c.args.rest.at c.args.rest.left.numbered c.args.rest.left.others c.known_best-best.result c.requires.inside c.known_best-best.ensures (rw five at c.loop-owner.invariant)
