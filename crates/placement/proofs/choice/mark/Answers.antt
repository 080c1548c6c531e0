-- The slices of the part have the number, and the others are as they were.
use Rattle.std.proofs.Common.{◌≡◌, ◌+◌, ◌-◌, ◌++◌, length, take, drop, replicate, ap, ◌∙◌, arith, length-drop, length-take}
use Rattle.std.proofs.lemmas.Slice.{take-put_mid, drop-put_mid}
use Rattle.model.specs.Owners.{number_of}
use Rattle.placement.proofs.choice.mark.Goals as goal

pub returns : goal.returns
returns c =
    let xs = c.args.owners.now in
    let a = c.args.at in
    let w = c.args.width in
    let n : length (take (a + w - a) (drop a xs)) ≡ w = simp (length-take, length-drop) (omega arith) in
    let e : c.fill.new.self ≡ replicate w (number_of c.args.owner) = c.fill.ensures.after (λ y h. h) ∙ ap (λ k. replicate k c.into.result) n ∙ ap (replicate w) c.into.ensures in
    let m : length c.fill.new.self ≡ w = c.fill.ensures.len ∙ n in
    record {
      front = take-put_mid a (a + w - a) xs c.fill.new.self (a + w) (omega arith) (omega arith) ∙ ap (λ ys. take a xs ++ ys) e;
      back = drop-put_mid a (a + w - a) xs c.fill.new.self (a + w) (omega arith) (omega arith) (omega arith);
    }
