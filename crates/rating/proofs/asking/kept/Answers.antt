use Rattle.std.proofs.Common.{◌++◌, drop, length, replicate, ap, ◌∙◌}
use Rattle.std.proofs.lemmas.List.{drop-replicate}
use Rattle.rating.proofs.asking.kept.Goals as goal

pub returns : goal.returns
returns g c =
    let n = length c.args.items.now in
    ap (λ vs. vs ++ drop n (replicate 300 c.args.blank)) c.copy_from_slice.ensures.after ∙ ap (λ zs. c.args.items.now ++ zs) (drop-replicate n 300 c.args.blank)
