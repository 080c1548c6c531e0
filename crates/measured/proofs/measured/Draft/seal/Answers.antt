use Rattle.measured.proofs.Sound.{seal_sound}
use Rattle.measured.proofs.measured.Draft.seal.Goals as goal

pub invariant_of-into : goal.invariant_of-into
invariant_of-into c =
    let w = seal_sound c.args.self.layout.count c.args.rows.now c.args.self.filled _ c.args.self.room c.in_default.ensures in
    record { filled = w.0; ranged = w.1 }
