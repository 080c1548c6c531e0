use Rattle.std.proofs.Common.{◌≡◌, ℕ, ◌≤◌, ℤ, pos, nat_abs, ◌∙◌, subst, sym, arith}
use Rattle.loads.specs.Held.{held_sum}
use Rattle.loads.proofs.Counts.{back}
use Rattle.loads.proofs.Each.{fill_more}
use Rattle.loads.proofs.lanes.Lane.values.Goals as goal

pub loop-k-preserved : goal.loop-k-preserved
loop-k-preserved c =
    let l = c.args.self in
    let e = back c.wheel_sum.result c.wheel_sum.ensures.within in
    record {
      value = fill_more (λ (i : ℕ) (z : ℤ). z ≡ held_sum l.grid.now.heights l.start l.slices i) c.loop-k.value-items c.loop-k.k _ (pos 0) (omega arith) c.loop-k.invariant.value (e ∙ c.wheel_sum.ensures.value);
      within = fill_more (λ (i : ℕ) (z : ℤ). nat_abs z ≤ 400000) c.loop-k.value-items c.loop-k.k _ (pos 0) (omega arith) c.loop-k.invariant.within (subst (λ (z : ℤ). nat_abs z ≤ 400000) (sym e) c.wheel_sum.ensures.within);
    }
