use Rattle.std.proofs.Common.{◌≡◌, ◌-◌, length, ap, ◌∙◌, rules}
use borrow.Rule.Slice.PartMut.{mid_of}
use Rattle.card.specs.Steps.{long_enough}
use Rattle.figures.specs.Lent.{lengths}
use Rattle.rating.proofs.Asked.{cut_enough, same_lengths, asked_cut}
use Rattle.rating.proofs.asking.ask.Goals as goal

pub returns : goal.returns
returns g c = λ fit.
    let j = c.args.job.now in
    let s = g.S.Surface.shape j.surface in
    let l = c.reach-lent.result in
    let a = mid_of 0 (l.areas - 0) c.args.desk.now.areas in
    let t = mid_of 0 (l.tandems - 0) c.args.desk.now.tandems in
    let b = mid_of 0 (l.bests - 0) c.args.bests.now in
    let o = mid_of 0 (l.owners - 0) c.args.desk.now.owners in
    let la : length a ≡ l.areas = search rules in
    let lt : length t ≡ l.tandems = search rules in
    let lb : length b ≡ l.bests = search rules in
    let lo : length o ≡ l.owners = search rules in
    let same : lengths a t b o ≡ l = same_lengths l la lt lb lo in
    asked_cut g.W.Worth.kind g.W.Worth.made s j.card c.args.kind c.args.lengths (lengths a t b o) c.answer_over.result
    (ap (long_enough j.card.kerbs) (same ∙ c.reach-lent.ensures) ∙ cut_enough s.slices j.card.kerbs c.args.lengths fit)
    (c.answer_over.ensures fit)
