use Rattle.std.proofs.Common.{◌≡◌, ℕ, ◌+◌, ◌≤◌, List, vec_items, sym, ap, ◌∙◌, subst, arith}
use Rattle.std.proofs.lemmas.Result.{IfOk-from_err}
use Rattle.report.specs.Shown.{BeginsOther, Listed, count_of}
use Rattle.report.proofs.Counts.{begins_at, count_more, count_none, count_same}
use Rattle.report.proofs.Listing.{listed_more, listed_none, listed_same}
use Rattle.report.proofs.others.other_starts.Goals as goal
use Rattle.report.proofs.others.other_starts.Goals.{then-begins+in_ok-push, else-begins, then-number-eq-OTHER, else-number-eq-OTHER}

pub returns-in_err-push : goal.returns-in_err-push
returns-in_err-push c = IfOk-from_err c.from_residual.result _ c.from_residual.ensures.0

pub loop-j-init : goal.loop-j-init
loop-j-init c = (sym (count_none c.args.owners.now 4), omega arith, simp c.new-starts.ensures.items (listed_none _))

pub loop-j-preserved : goal.loop-j-preserved
loop-j-preserved c =
    let owners = c.args.owners.now in
    let j = c.loop-j.j in
    let before = c.if-number-eq-OTHER.before in
    let counted : (before ≡ count_of owners (j + 1) 4) × (before ≤ j + 1) =
    elim c.if-number-eq-OTHER.branch [
      | then-number-eq-OTHER w ↦ (let e = count_more owners j 4 w.if-number-eq-OTHER.true in (omega (arith, w.before-is), omega (arith, w.before-is)))
      | else-number-eq-OTHER w ↦ (let e = count_same owners j 4 w.if-number-eq-OTHER.false in (omega (arith, w.before-is), omega (arith, w.before-is)))
    ]
    in
    let listed : Listed (BeginsOther owners) (j + 1) (vec_items c.if-begins.starts) =
    elim c.if-begins.branch [
      | then-begins+in_ok-push w ↦ subst (λ (xs : List ℕ). Listed (BeginsOther owners) (j + 1) xs) (sym (ap vec_items w.starts-is ∙ w.in_ok-push.ensures.items))
          (listed_more (BeginsOther owners) j (vec_items c.loop-j.starts) c.loop-j.invariant.2 (begins_at w.if-begins.ensures c.loop-j.invariant.0 c.owned_slices-width.ensures))
      | else-begins w ↦ subst (λ (xs : List ℕ). Listed (BeginsOther owners) (j + 1) xs) (sym (ap vec_items w.starts-is))
          (listed_same (BeginsOther owners) j (vec_items c.loop-j.starts) c.loop-j.invariant.2 (λ b. w.if-begins.ensures (begins_at b (sym c.loop-j.invariant.0) (sym c.owned_slices-width.ensures))))
    ]
    in (counted.0, counted.1, listed)
