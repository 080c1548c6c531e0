-- The entry that is read is the best.
use Rattle.std.proofs.Common.{◌∙◌, arith}
use Rattle.placing.proofs.Steps.{entry_read}
use Rattle.placement.proofs.entries.Entries.known_best.Goals as goal

pub returns : goal.returns
returns g c =
    let l = c.args.rest.left in
    entry_read g.W.Worth.kind (g.P.Parts.road c.args.self.now.parts.now) c.args.self.now.bests.now c.index-self-entry.result c.in-Some.best 0 c.args.rest.at l.numbered l.others c.requires.ready.filled c.requires.ready.long c.requires.inside l.numbered_low l.others_low (omega arith)
    (rw c.entry.ensures at c.index-self-entry.is) (c.index-self-entry.is ∙ c.in-Some.is)
