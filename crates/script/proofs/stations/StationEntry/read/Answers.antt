use Rattle.std.proofs.Common.{pos, sym, ◌∙◌, subst, arith}
use Rattle.std.proofs.lemmas.Result.{err_from_is_err_and}
use Rattle.table.specs.Numbers.{Writes}
use Rattle.records.specs.Numbers.{Written}
use Rattle.records.proofs.Progress.{taken_whole, written_length}
use Rattle.script.specs.Stations as stations
use Rattle.script.proofs.Numbered.{two}
use Rattle.script.proofs.stations.StationEntry.read.Goals as goal

pub returns-then-fields-ne-FIELDS : goal.returns-then-fields-ne-FIELDS
returns-then-fields-ne-FIELDS c = λ cs ys l h. rw c.fault.ensures (stations.count (λ e. c.if-fields-ne-FIELDS.true (sym h ∙ e)))

pub returns-in_err-numbers : goal.returns-in_err-numbers
returns-in_err-numbers c = λ cs ys l h.
    let p = err_from_is_err_and c.from_residual.result c.from_residual.ensures.1 in
    let n = h ∙ c.if-fields-ne-FIELDS.false in
    rw (p.1, p.2) (stations.number _ n (c.in_err-numbers.ensures.numbers cs ys l n))

pub returns : goal.returns
returns c = λ cs ys l h.
    let n = h ∙ c.if-fields-ne-FIELDS.false in
    let t = taken_whole (c.in_ok-numbers.ensures.numbers cs ys l n) (omega arith) in
    let is = rw c.unwrap.ensures at c.into_inner.ensures.ok in
    let w : Written Writes cs c.unwrap.result = rw is t in
    rw (c.station_of.ensures.place, c.station_of.ensures.ordinate) (subst (Written Writes cs) (two (pos 0) c.unwrap.result (written_length Writes cs c.unwrap.result w ∙ n)) w)
