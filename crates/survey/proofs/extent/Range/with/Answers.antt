use Rattle.std.proofs.Common.{◌≡◌, Bool, true, false, cond, ◌⊎◌, ℤ, ◌∙◌, inl, inr, arith, w32, SFits, to_z, of_z, rules}
use borrow.Author.Differences.{ints}
use Rattle.survey.proofs.extent.Range.with.Goals as goal

-- one of the two
either : (b : Bool) (x y r a c : ℤ) → r ≡ cond b x y → x ≡ a → y ≡ c → (r ≡ a) ⊎ (r ≡ c)
either true x y r a c e p q = inl (e ∙ p)
either false x y r a c e p q = inr (e ∙ q)

swap : {A B : Type 0} → A ⊎ B → B ⊎ A
swap (inl a) = inr a
swap (inr b) = inl b

pub returns : goal.returns
returns c =
    let a = c.args.self in
    let b = c.args.other in
    let m = c.min.ensures in
    let n = c.max.ensures in
    let low : SFits w32 c.min.result = search rules in
    let high : SFits w32 c.max.result = search rules in
    let least : to_z w32 (of_z w32 c.min.result) ≡ c.min.result = omega (arith, ints) in
    let greatest : to_z w32 (of_z w32 c.max.result) ≡ c.max.result = omega (arith, ints) in
    let al : to_z w32 (of_z w32 a.least) ≡ a.least = omega (arith, ints) in
    let ag : to_z w32 (of_z w32 a.greatest) ≡ a.greatest = omega (arith, ints) in
    let bl : to_z w32 (of_z w32 b.least) ≡ b.least = omega (arith, ints) in
    let bg : to_z w32 (of_z w32 b.greatest) ≡ b.greatest = omega (arith, ints) in
    record {
      low_left = omega (arith, ints);
      low_right = omega (arith, ints);
      high_left = omega (arith, ints);
      high_right = omega (arith, ints);
      least_is = swap (either _ _ _ _ _ _ (least ∙ m.value) bl al);
      greatest_is = either _ _ _ _ _ _ (greatest ∙ n.value) ag bg;
    }
