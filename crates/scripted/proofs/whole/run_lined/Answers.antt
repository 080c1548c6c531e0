use Rattle.std.proofs.Common.{◌≡◌, vec_items, arith, w32, SFits, to_z, of_z, rules}
use borrow.Author.Differences.{ints}
use Rattle.scripted.proofs.Judged.{made_over, refused_over}
use Rattle.scripted.proofs.whole.run_lined.Goals as goal

pub returns-in-Ok : goal.returns-in-Ok
returns-in-Ok c =
    let e = c.args.lined.now.edges in
    let t = c.args.tail.now in
    let m = c.make.new.self in
    let fn : SFits w32 e.slices = search rules in
    let ff : SFits w32 e.left = search rules in
    let fg : SFits w32 e.right = search rules in
    let sn : to_z w32 (of_z w32 e.slices) ≡ e.slices = omega (arith, ints) in
    let sf : to_z w32 (of_z w32 e.left) ≡ e.left = omega (arith, ints) in
    let sg : to_z w32 (of_z w32 e.right) ≡ e.right = omega (arith, ints) in
    let a = rw (sn, sf, sg, c.as_slice.ensures.value) at c.in-Ok.ensures in
    made_over e.slices e.left e.right (vec_items c.args.lined.now.line) t.turns t.opening.number t.opening.kerbs (vec_items t.calls) _ _ m.slices m.left m.right m.line.now _ a c.run_turned.ensures

pub returns-in-Err : goal.returns-in-Err
returns-in-Err c =
    let e = c.args.lined.now.edges in
    let t = c.args.tail.now in
    let fn : SFits w32 e.slices = search rules in
    let ff : SFits w32 e.left = search rules in
    let fg : SFits w32 e.right = search rules in
    let sn : to_z w32 (of_z w32 e.slices) ≡ e.slices = omega (arith, ints) in
    let sf : to_z w32 (of_z w32 e.left) ≡ e.left = omega (arith, ints) in
    let sg : to_z w32 (of_z w32 e.right) ≡ e.right = omega (arith, ints) in
    let a = rw (sn, sf, sg, c.as_slice.ensures.value) at c.in-Err.ensures in
    refused_over e.slices e.left e.right (vec_items c.args.lined.now.line) t.turns t.opening.number t.opening.kerbs (vec_items t.calls) _ _ c.in-Err.fault _ _ a c.unread.ensures
