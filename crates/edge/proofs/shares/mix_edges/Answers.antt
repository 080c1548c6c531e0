use Rattle.std.proofs.Common.{◌≡◌, ℕ, ◌+◌, ◌-◌, ◌*◌, ◌<◌, ◌≤◌, ℤ, pos, ◌+ℤ◌, ◌*ℤ◌, nat_abs, ap, ◌∙◌, arith, w32, w64, to_z, of_z}
use borrow.Author.Differences.{ints}
use Rattle.std.proofs.lemmas.Int.{of_z-to_z}
use Rattle.edge.specs.Edges.{edge_mix, shares_within, scaled_within, edge_mix_within}
use Rattle.surface.proofs.Quotients.{times_within, product_is}
use Rattle.edge.proofs.shares.mix_edges.Goals as goal

-- the two shares together, as the code has them
shared : (f g l r : ℤ) (n j : ℕ) → j < n → n ≤ 300 → nat_abs f ≤ 2000 → nat_abs g ≤ 2000 → l ≡ to_z w32 (of_z w32 f) → r ≡ to_z w32 (of_z w32 g) → to_z w64 (of_z w64 (to_z w64 (of_z w64 (to_z w64 (of_z w64 l) *ℤ to_z w64 (2 * n - 2 * j - 1))) +ℤ to_z w64 (of_z w64 (to_z w64 (of_z w64 r) *ℤ to_z w64 (2 * j + 1))))) ≡ f *ℤ pos (2 * n - 2 * j - 1) +ℤ g *ℤ pos (2 * j + 1)
shared f g l r n j h few hf hg el er =
    let a = product_is f l (2 * n - 2 * j - 1) (omega arith) (omega arith) el in
    let b = product_is g r (2 * j + 1) (omega arith) (omega arith) er in
    let w = shares_within f g n j h hf hg in
    simp (a, b) (omega (arith, ints))

pub overflow_add-from_left : goal.overflow_add-from_left
overflow_add-from_left c =
    let x = 2 * c.args.n - 2 * c.args.j - 1 in
    let y = 2 * c.args.j + 1 in
    let l = product_is c.args.f c.from.result x (omega arith) (omega arith) c.from.ensures in
    let r = product_is c.args.g c.from-2.result y (omega arith) (omega arith) c.from-2.ensures in
    let a = times_within c.args.f x 2000 c.requires.within.1.0 in
    let b = times_within c.args.g y 2000 c.requires.within.1.1 in
    simp (l, r) (omega (arith, ints))

pub overflow_mul-from : goal.overflow_mul-from
overflow_mul-from c =
    let x = shared c.args.f c.args.g c.from.result c.from-2.result c.args.n c.args.j (omega arith) (omega arith) c.requires.within.1.0 c.requires.within.1.1 c.from.ensures c.from-2.ensures in
    let v : to_z w64 (of_z w64 c.from-3.result) ≡ c.args.v = omega (arith, ints) in
    let w = shares_within c.args.f c.args.g c.args.n c.args.j (omega arith) c.requires.within.1.0 c.requires.within.1.1 in
    let p = scaled_within c.args.v (c.args.f *ℤ pos (2 * c.args.n - 2 * c.args.j - 1) +ℤ c.args.g *ℤ pos (2 * c.args.j + 1)) (2000 * c.args.n) (omega arith) w in
    simp (x, v) (omega (arith, ints))

pub div_euclid-requires-clause-no_overflow : goal.div_euclid-requires-clause-no_overflow
div_euclid-requires-clause-no_overflow c = λ h k. omega (arith, h, of_z-to_z w64 (2000 * c.args.n) (omega arith))

-- the quotient, as the definition has it
is : (c : goal.After-div_euclid) → c.div_euclid.result ≡ edge_mix c.args.v c.args.f c.args.g c.args.n c.args.j
is c =
    let z : ℤ = c.args.f *ℤ pos (2 * c.args.n - 2 * c.args.j - 1) +ℤ c.args.g *ℤ pos (2 * c.args.j + 1) in
    let x = shared c.args.f c.args.g c.from.result c.from-2.result c.args.n c.args.j (omega arith) (omega arith) c.requires.within.1.0 c.requires.within.1.1 c.from.ensures c.from-2.ensures in
    let v : to_z w64 (of_z w64 c.from-3.result) ≡ c.args.v = omega (arith, ints) in
    let w = shares_within c.args.f c.args.g c.args.n c.args.j (omega arith) c.requires.within.1.0 c.requires.within.1.1 in
    let p = scaled_within c.args.v z (2000 * c.args.n) (omega arith) w in
    let d : to_z w64 (2000 * c.args.n) ≡ pos (2000 * c.args.n) = omega (arith, ints) in
    let m : to_z w64 (of_z w64 (c.args.v *ℤ z)) ≡ c.args.v *ℤ z = omega (arith, ints) in
    simp (x, v, m, d) at c.div_euclid.ensures

pub overflow_cast-result : goal.overflow_cast-result
overflow_cast-result c =
    let h = edge_mix_within c.args.v c.args.f c.args.g c.args.n c.args.j (omega arith) (omega arith) c.requires.within.1.0 c.requires.within.1.1 in
    omega (arith, ints, ap nat_abs (is c))

pub returns : goal.returns
returns c =
    let h = edge_mix_within c.args.v c.args.f c.args.g c.args.n c.args.j (omega arith) (omega arith) c.requires.within.1.0 c.requires.within.1.1 in
    let r : to_z w32 (of_z w32 (to_z w64 (of_z w64 c.div_euclid.result))) ≡ c.div_euclid.result = omega (arith, ints, ap nat_abs (is c)) in
    r ∙ is c
