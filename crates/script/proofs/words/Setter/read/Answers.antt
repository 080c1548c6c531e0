-- As many numbers as the call takes follow the word, and make the call.
use Rattle.std.proofs.Common.{◌≡◌, ◌<◌, length, refl, ap, arith}
use Rattle.std.proofs.lemmas.Result.{err_from_is_err_and}
use Rattle.card.specs.declared.calls.Call.TheVariants.{Kerbs as SetKerbs, Factors as SetFactors}
use Rattle.script.specs.Rest as rest
use Rattle.script.specs.declared.words.Setter.TheVariants.{Kerbs, Factors, Reduce, Posted, Withdraw}
use Rattle.script.proofs.Saying.{set_by}
use Rattle.script.proofs.words.Setter.read.Goals as goal

pub returns-then-fields-count : goal.returns-then-fields-count
returns-then-fields-count c = λ ds ys l h. rw c.fault.ensures (rest.count (λ e. c.if-fields-count.true (omega (arith, c.count.ensures))))

pub returns-in_err-read_naturals-in-Kerbs : goal.returns-in_err-read_naturals-in-Kerbs
returns-in_err-read_naturals-in-Kerbs c = λ ds ys l h.
    let p = err_from_is_err_and c.from_residual.result c.from_residual.ensures.1 in
    let n : length ds ≡ 2 = omega (arith, c.if-fields-count.false, rw c.in-Kerbs.is at c.count.ensures) in
    rw (p.1, p.2, c.in-Kerbs.is) (rest.number _ n (c.in_err-read_naturals-in-Kerbs.ensures ds ys (l (omega arith)) n))

pub returns-in_ok-read_naturals-in-Kerbs : goal.returns-in_ok-read_naturals-in-Kerbs
returns-in_ok-read_naturals-in-Kerbs c = λ ds ys l h.
    let n : length ds ≡ 2 = omega (arith, c.if-fields-count.false, rw c.in-Kerbs.is at c.count.ensures) in
    rw c.in-Kerbs.is (set_by Kerbs ds _ n (c.in_ok-read_naturals-in-Kerbs.ensures ds ys (l (omega arith)) n) _ (ap SetKerbs c.kerbs_of.ensures))

pub returns-in_err-read_naturals-in-Factors : goal.returns-in_err-read_naturals-in-Factors
returns-in_err-read_naturals-in-Factors c = λ ds ys l h.
    let p = err_from_is_err_and c.from_residual-in_err-read_naturals-in-Factors.result c.from_residual-in_err-read_naturals-in-Factors.ensures.1 in
    let n : length ds ≡ 8 = omega (arith, c.if-fields-count.false, rw c.in-Factors.is at c.count.ensures) in
    rw (p.1, p.2, c.in-Factors.is) (rest.number _ n (c.in_err-read_naturals-in-Factors.ensures ds ys (l (omega arith)) n))

pub returns-in_ok-read_naturals-in-Factors : goal.returns-in_ok-read_naturals-in-Factors
returns-in_ok-read_naturals-in-Factors c = λ ds ys l h.
    let n : length ds ≡ 8 = omega (arith, c.if-fields-count.false, rw c.in-Factors.is at c.count.ensures) in
    rw c.in-Factors.is (set_by Factors ds _ n (c.in_ok-read_naturals-in-Factors.ensures ds ys (l (omega arith)) n) _ (ap SetFactors c.factors_of.ensures))

pub returns-in_err-read_naturals-in-Reduce : goal.returns-in_err-read_naturals-in-Reduce
returns-in_err-read_naturals-in-Reduce c = λ ds ys l h.
    let p = err_from_is_err_and c.from_residual-in_err-read_naturals-in-Reduce.result c.from_residual-in_err-read_naturals-in-Reduce.ensures.1 in
    let n : length ds ≡ 8 = omega (arith, c.if-fields-count.false, rw c.in-Reduce.is at c.count.ensures) in
    rw (p.1, p.2, c.in-Reduce.is) (rest.number _ n (c.in_err-read_naturals-in-Reduce.ensures ds ys (l (omega arith)) n))

pub returns-in_ok-read_naturals-in-Reduce : goal.returns-in_ok-read_naturals-in-Reduce
returns-in_ok-read_naturals-in-Reduce c = λ ds ys l h.
    let n : length ds ≡ 8 = omega (arith, c.if-fields-count.false, rw c.in-Reduce.is at c.count.ensures) in
    rw c.in-Reduce.is (set_by Reduce ds _ n (c.in_ok-read_naturals-in-Reduce.ensures ds ys (l (omega arith)) n) _ c.reduced_by.ensures)

pub returns-in_err-number-in-Posted : goal.returns-in_err-number-in-Posted
returns-in_err-number-in-Posted c = λ ds ys l h.
    let p = err_from_is_err_and c.from_residual-in_err-number-in-Posted.result c.from_residual-in_err-number-in-Posted.ensures.1 in
    let n : length ds ≡ 2 = omega (arith, c.if-fields-count.false, rw c.in-Posted.is at c.count.ensures) in
    rw (p.1, p.2, c.in-Posted.is) (rest.number _ n (c.in_err-number-in-Posted.ensures ds ys (l (omega arith)) n))

pub returns-in_ok-number-in-Posted : goal.returns-in_ok-number-in-Posted
returns-in_ok-number-in-Posted c = λ ds ys l h.
    let n : length ds ≡ 2 = omega (arith, c.if-fields-count.false, rw c.in-Posted.is at c.count.ensures) in
    rw c.in-Posted.is (set_by Posted ds _ n (c.in_ok-number-in-Posted.ensures ds ys (l (omega arith)) n) _ refl)

pub returns-in_err-number-in-Withdraw : goal.returns-in_err-number-in-Withdraw
returns-in_err-number-in-Withdraw c = λ ds ys l h.
    let p = err_from_is_err_and c.from_residual-in_err-number-in-Withdraw.result c.from_residual-in_err-number-in-Withdraw.ensures.1 in
    let n : length ds ≡ 2 = omega (arith, c.if-fields-count.false, rw c.in-Withdraw.is at c.count.ensures) in
    rw (p.1, p.2, c.in-Withdraw.is) (rest.number _ n (c.in_err-number-in-Withdraw.ensures ds ys (l (omega arith)) n))

pub returns-in_ok-number-in-Withdraw : goal.returns-in_ok-number-in-Withdraw
returns-in_ok-number-in-Withdraw c = λ ds ys l h.
    let n : length ds ≡ 2 = omega (arith, c.if-fields-count.false, rw c.in-Withdraw.is at c.count.ensures) in
    rw c.in-Withdraw.is (set_by Withdraw ds _ n (c.in_ok-number-in-Withdraw.ensures ds ys (l (omega arith)) n) _ refl)
