use Rattle.std.proofs.Common.{◌+◌, ◌-◌, get_or, arith}
use Rattle.loads.proofs.Pairing.{part_fits, others_fit, sum_fits_all, paired}
use Rattle.loads.proofs.line.Line.peak.Goals as goal

pub overflow_mul-left : goal.overflow_mul-left
overflow_mul-left c =
    let s = c.args.self.grid.now.stations in
    let k = c.args.other.segment in
    let end = s.placed.ends (k + 1) c.requires.under.inside in
    part_fits c.args.self k (get_or s.places (k + 1) 0 - c.args.other.place) (omega (arith, c.requires.under.inside)) (omega arith) c.from-3.ensures c.from-4.ensures

pub overflow_mul-right : goal.overflow_mul-right
overflow_mul-right c =
    let s = c.args.self.grid.now.stations in
    let k = c.args.other.segment in
    let end = s.placed.ends (k + 1) c.requires.under.inside in
    let below = c.requires.under.below in
    part_fits c.args.self (k + 1) (c.args.other.place - get_or s.places k 0) c.requires.under.inside (omega arith) c.from-5.ensures c.from-6.ensures

pub overflow_add-result : goal.overflow_add-result
overflow_add-result c = others_fit c.args.self c.args.i c.args.other c.requires.there c.requires.under c.from.ensures c.from-2.ensures c.from-3.ensures c.from-4.ensures c.from-5.ensures c.from-6.ensures

pub overflow_add-result-2 : goal.overflow_add-result-2
overflow_add-result-2 c = sum_fits_all c.args.self c.args.i c.args.other c.requires.there c.requires.under c.from.ensures c.from-2.ensures c.from-3.ensures c.from-4.ensures c.from-5.ensures c.from-6.ensures

pub returns-clause-sum : goal.returns-clause-sum
returns-clause-sum c = paired c.args.self c.args.i c.args.other c.requires.there c.requires.under c.from.ensures c.from-2.ensures c.from-3.ensures c.from-4.ensures c.from-5.ensures c.from-6.ensures c.min.result
