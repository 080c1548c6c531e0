-- What is read for a part is what its tandem and its area count, and both fit.
use Rattle.std.proofs.Common.{◌∙◌, arith}
use Rattle.loaded.proofs.Lent.{shares}
use Rattle.loaded.proofs.loads.LoadedCarriageway.shares.Goals as goal

pub overflow_sub-area : goal.overflow_sub-area
overflow_sub-area c = (shares c.args.self.now c.args.owner c.args.at c.width_of.result c.from-number.result c.requires c.width_of.ensures (c.from-number.ensures ∙ c.from.ensures)).rises

pub overflow_mul-tandem : goal.overflow_mul-tandem
overflow_mul-tandem c = let s = shares c.args.self.now c.args.owner c.args.at c.width_of.result c.from-number.result c.requires c.width_of.ensures (c.from-number.ensures ∙ c.from.ensures) in omega (arith, s.tandem_fits)

pub overflow_mul-uniform : goal.overflow_mul-uniform
overflow_mul-uniform c = let s = shares c.args.self.now c.args.owner c.args.at c.width_of.result c.from-number.result c.requires c.width_of.ensures (c.from-number.ensures ∙ c.from.ensures) in omega (arith, s.uniform_fits)

pub returns : goal.returns
returns c =
    let s = shares c.args.self.now c.args.owner c.args.at c.width_of.result c.from-number.result c.requires c.width_of.ensures (c.from-number.ensures ∙ c.from.ensures) in
    record { tandem = s.tandem; tandem_low = s.tandem_fits; uniform = s.uniform; uniform_low = s.uniform_fits }
