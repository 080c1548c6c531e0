-- Each turn reads the next field of the record, and holds its number while there is room.
use Rattle.std.proofs.Common.{◌≡◌, ◌+◌, ◌<◌, [], ◌∷◌, ◌++◌, length, take, arith}
use Rattle.std.proofs.lemmas.List.{length_push, length-take}
use Rattle.std.proofs.lemmas.Result.{err_from_is_err_and}
use Rattle.records.proofs.Progress.{progress_none, progress_all, progress_stands, progress_missed, progress_more, held_next}
use Rattle.records.proofs.numbers.read_numbers.Goals as goal

pub loop-i-init : goal.loop-i-init
loop-i-init g c = rw c.new-numbers.ensures (omega arith, λ cs ys l h. progress_none g.N.Number.writes g.row.ROOM cs ys c.args.here.input.now c.args.here.at l)

pub returns-in_err-read-clause-numbers : goal.returns-in_err-read-clause-numbers
returns-in_err-read-clause-numbers g c = λ cs ys l h.
    let e = rw c.moved_to.ensures at c.in_err-read.ensures in
    absurd (progress_stands g.N.Number.writes g.row.ROOM cs ys c.args.here.input.now c.loop-i.i c.loop-i.at c.loop-i.numbers.items (c.loop-i.invariant.1 cs ys l h) (omega arith) e.1)

pub returns-in_err-value-clause-numbers : goal.returns-in_err-value-clause-numbers
returns-in_err-value-clause-numbers g c = λ cs ys l h.
    let p = err_from_is_err_and c.from_residual-in_err-value.result c.from_residual-in_err-value.ensures.1 in
    let k = rw c.moved_to.ensures at c.in_ok-read.ensures in
    let e = c.in_err-value.ensures in
    let r = k.in_record in
    let f = k.in_field in
    let so = c.loop-i.invariant.1 cs ys l h in
    rw (p.1, p.2) (record {
      index = c.loop-i.i;
      unwritten = progress_missed g.N.Number.writes g.row.ROOM cs ys c.args.here.input.now c.loop-i.i c.loop-i.at c.loop-i.numbers.items so (omega arith) k e.1;
      place = cc;
    })

pub loop-i-preserved : goal.loop-i-preserved
loop-i-preserved g c =
    let W = g.N.Number.writes in
    let room = g.row.ROOM in
    let i = c.loop-i.i in
    let old = c.loop-i.numbers.items in
    let v = c.in_ok-value.value in
    let k = rw c.moved_to.ensures at c.in_ok-read.ensures in
    let step : c.in_ok-read.read.next < length c.args.here.input.now → c.saturating_add-at.result ≡ c.in_ok-read.read.next + 1 = λ h. omega arith in
    let size = length-take room (old ++ (v ∷ [])) in
    let long = length_push old v in
    rw c.hold_next.ensures (
      omega arith,
      λ cs ys l e.
          let so = c.loop-i.invariant.1 cs ys l e in
          progress_more W room cs ys c.args.here.input.now i c.loop-i.at old so (omega arith) v c.saturating_add-at.result (take room (old ++ (v ∷ []))) k c.in_ok-value.ensures step (held_next W room cs ys c.args.here.input.now i c.loop-i.at old so (omega arith) v),
    )

pub returns-clause-numbers : goal.returns-clause-numbers
returns-clause-numbers g c = λ cs ys l h. progress_all g.N.Number.writes g.row.ROOM cs ys c.args.here.input.now c.loop-i.i c.loop-i.at c.loop-i.numbers.items (omega arith) (c.loop-i.invariant.1 cs ys l h)
