use Rattle.std.proofs.Common.{◌-◌, ◌≤◌, length, replicate, None, sym, subst, arith}
use Rattle.model.specs.Lanes.{breadth}
use Rattle.card.specs.declared.fault.JobFault.TheVariants.{Kerbs, Short}
use Rattle.statement.specs.Runs.{Taken}
use Rattle.rating.proofs.Asked.{unless_none, enough_owners, taken, kept_layout}
use Rattle.rating.proofs.asking.answer_over.Goals as goal

pub returns-in-Ok : goal.returns-in-Ok
returns-in-Ok g c = λ fit.
    let j = c.args.job.now in
    let s = g.S.Surface.shape j.surface in
    let e = c.in-Ok.ensures in
    let own = (unless_none _ Kerbs _ e.judged).1 in
    let long = enough_owners j.card.kerbs _ (unless_none _ Short None own).0 in
    let owners = c.rate.new.owners in
    let tandems = c.rate.new.tandems in
    let room : breadth j.card.kerbs ≤ length owners = omega (arith, long, c.rate.auto.owners) in
    let t = taken g.W.Worth.kind g.W.Worth.made s j.card c.args.kind c.in-Ok.rating _ _ (replicate (300 - length owners) 0) (300 - length tandems) e.told.0 e.told.1 room in
    let layout = kept_layout c.in-Ok.rating owners c.kept.result tandems c.kept-in-Ok.result c.none.result c.kept.ensures c.kept-in-Ok.ensures c.none.ensures in
    record { judged = own; taken = λ _. subst (Taken g.W.Worth.kind g.W.Worth.made s j.card c.args.kind) (sym layout) t }
