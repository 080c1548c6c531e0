use Rattle.std.proofs.Common.{◌≡◌, ℤ, pos, nat_abs, ap, ◌∙◌, arith, w32, to_z, of_z}
use borrow.Author.Differences.{ints}
use Rattle.edge.specs.Judged.{edge_judged}
use Rattle.surface.proofs.Verdicts.{answered}
use Rattle.edge.proofs.Sound.{slices, lined, natural, leaning}
use Rattle.edge.proofs.edge.Edge.make.Goals as goal

pub of_parts-requires : goal.of_parts-requires
of_parts-requires c =
    let n : ℤ = to_z w32 (of_z w32 c.args.slices) in
    let f : ℤ = to_z w32 (of_z w32 c.args.left) in
    let g : ℤ = to_z w32 (of_z w32 c.args.right) in
    let e = c.in_ok-check_edge.ensures in
    (lined n f g c.args.line.now _ e, (natural n f g c.args.line.now _ e, leaning n f g c.args.line.now _ e))

pub returns : goal.returns
returns c =
    let ss = c.args.line.now in
    let n : to_z w32 (of_z w32 c.args.slices) ≡ c.args.slices = omega (arith, ints) in
    let f : to_z w32 (of_z w32 c.args.left) ≡ c.args.left = omega (arith, ints) in
    let g : to_z w32 (of_z w32 c.args.right) ≡ c.args.right = omega (arith, ints) in
    let e = c.in_ok-check_edge.ensures
    ∙ ap (λ (k : ℤ). edge_judged k (to_z w32 (of_z w32 c.args.left)) (to_z w32 (of_z w32 c.args.right)) ss) n
    ∙ ap (λ (k : ℤ). edge_judged c.args.slices k (to_z w32 (of_z w32 c.args.right)) ss) f
    ∙ ap (λ (k : ℤ). edge_judged c.args.slices c.args.left k ss) g in
    let s = (slices c.args.slices c.args.left c.args.right ss _ e).0 in
    let made = c.of_parts.ensures in
    answered _ _ _ _ e (ap pos made.slices ∙ ap (λ (k : ℤ). pos (nat_abs k)) n ∙ s, made.factors.0 ∙ f, made.factors.1 ∙ g, made.line)
