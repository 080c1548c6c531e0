-- Each turn reads the next field of the record, and puts its number into its place if there is one.
use Rattle.std.proofs.Common.{◌≡◌, ◌+◌, ◌<◌, length, ◌∙◌, refl, arith}
use Rattle.std.proofs.lemmas.List.{length-set}
use Rattle.std.proofs.lemmas.Result.{err_from_is_err_and}
use Rattle.records.proofs.Progress.{filling_none, filling_all, filling_more, progress_stands, progress_missed}
use Rattle.records.proofs.numbers.fill_numbers.Goals as goal

pub loop-i-init : goal.loop-i-init
loop-i-init g c = (refl, λ cs ys l h. filling_none g.N.Number.writes cs ys c.args.here.input.now c.args.here.at c.args.into.now l)

pub returns-in_err-read-clause-numbers : goal.returns-in_err-read-clause-numbers
returns-in_err-read-clause-numbers g c = λ cs ys l h.
    let e = rw c.moved_to.ensures at c.in_err-read.ensures in
    let so = c.loop-i.invariant.1 cs ys l h in
    absurd (progress_stands g.N.Number.writes (length c.args.into.now) cs ys c.args.here.input.now c.loop-i.i c.loop-i.at so.held so.progress (omega arith) e.1)

pub returns-in_err-value-clause-numbers : goal.returns-in_err-value-clause-numbers
returns-in_err-value-clause-numbers g c = λ cs ys l h.
    let p = err_from_is_err_and c.from_residual-in_err-value.result c.from_residual-in_err-value.ensures.1 in
    let k = rw c.moved_to.ensures at c.in_ok-read.ensures in
    let e = c.in_err-value.ensures in
    let r = k.in_record in
    let f = k.in_field in
    let so = c.loop-i.invariant.1 cs ys l h in
    rw (p.1, p.2) (record {
      index = c.loop-i.i;
      unwritten = progress_missed g.N.Number.writes (length c.args.into.now) cs ys c.args.here.input.now c.loop-i.i c.loop-i.at so.held so.progress (omega arith) k e.1;
      place = cc;
    })

pub loop-i-preserved : goal.loop-i-preserved
loop-i-preserved g c =
    let W = g.N.Number.writes in
    let i = c.loop-i.i in
    let old = c.args.into.now in
    let into = c.loop-i.into in
    let v = c.in_ok-value.value in
    let k = rw c.moved_to.ensures at c.in_ok-read.ensures in
    let step : c.in_ok-read.read.next < length c.args.here.input.now → c.saturating_add-at.result ≡ c.in_ok-read.read.next + 1 = λ h. omega arith in
    rw c.hold.ensures (length-set into i v ∙ c.loop-i.invariant.0, λ cs ys l e. filling_more W cs ys c.args.here.input.now i c.loop-i.at old into (c.loop-i.invariant.1 cs ys l e) (omega arith) v c.saturating_add-at.result k c.in_ok-value.ensures step)

pub returns-clause-numbers : goal.returns-clause-numbers
returns-clause-numbers g c = λ cs ys l h. filling_all g.N.Number.writes cs ys c.args.here.input.now c.loop-i.i c.loop-i.at c.args.into.now c.loop-i.into (omega arith) (c.loop-i.invariant.1 cs ys l h)
