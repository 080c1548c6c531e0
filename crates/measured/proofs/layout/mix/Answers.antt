use Rattle.std.proofs.Common.{◌≡◌, ◌-◌, pos, ◌+ℤ◌, ◌*ℤ◌, nat_abs, ap, ◌∙◌, arith, w32, w64, to_z, of_z}
use borrow.Author.Differences.{ints}
use Rattle.std.specs.Int.{int_div_euclid}
use Rattle.surface.proofs.Quotients.{times_within, product_is}
use Rattle.measured.specs.Mixes.{between_within}
use Rattle.measured.proofs.layout.mix.Goals as goal

pub overflow_add-left : goal.overflow_add-left
overflow_add-left c =
    let l = product_is c.args.v c.from.result (c.args.q - c.args.j) (omega arith) (omega arith) c.from.ensures in
    let r = product_is c.args.u c.from-2.result (c.args.j - c.args.p) (omega arith) (omega arith) c.from-2.ensures in
    let a = times_within c.args.v (c.args.q - c.args.j) 100000 (omega arith) in
    let b = times_within c.args.u (c.args.j - c.args.p) 100000 (omega arith) in
    simp (l, r) (omega (arith, ints))

-- the quotient, as the definition has it
is : (c : goal.After-floor) → c.floor.result ≡ int_div_euclid (c.args.v *ℤ pos (c.args.q - c.args.j) +ℤ c.args.u *ℤ pos (c.args.j - c.args.p)) (pos (c.args.q - c.args.p))
is c =
    let l = product_is c.args.v c.from.result (c.args.q - c.args.j) (omega arith) (omega arith) c.from.ensures in
    let r = product_is c.args.u c.from-2.result (c.args.j - c.args.p) (omega arith) (omega arith) c.from-2.ensures in
    let a = times_within c.args.v (c.args.q - c.args.j) 100000 (omega arith) in
    let b = times_within c.args.u (c.args.j - c.args.p) 100000 (omega arith) in
    let s : to_z w64 (of_z w64 (c.args.v *ℤ pos (c.args.q - c.args.j) +ℤ c.args.u *ℤ pos (c.args.j - c.args.p))) ≡ c.args.v *ℤ pos (c.args.q - c.args.j) +ℤ c.args.u *ℤ pos (c.args.j - c.args.p) = omega (arith, ints) in
    let d : to_z w64 (c.args.q - c.args.p) ≡ pos (c.args.q - c.args.p) = omega (arith, ints) in
    simp (l, r, s, d) at c.floor.ensures

pub overflow_cast-result : goal.overflow_cast-result
overflow_cast-result c =
    let w = between_within c.args.p c.args.v c.args.q c.args.u c.args.j 100000 (omega arith) (omega arith) (omega arith) (omega arith) (omega arith) in
    omega (arith, ints, ap nat_abs (is c))

pub returns : goal.returns
returns c =
    let w = between_within c.args.p c.args.v c.args.q c.args.u c.args.j 100000 (omega arith) (omega arith) (omega arith) (omega arith) (omega arith) in
    let r : to_z w32 (of_z w32 (to_z w64 (of_z w64 c.floor.result))) ≡ c.floor.result = omega (arith, ints, ap nat_abs (is c)) in
    r ∙ is c
