use Rattle.std.proofs.Common.{◌++◌, drop, length, replicate, pos, ap, ◌∙◌}
use Rattle.std.proofs.lemmas.List.{drop-replicate}
use Rattle.measured.proofs.padding.padded.Goals as goal

pub returns : goal.returns
returns c =
    let n = length c.args.values.now in
    ap (λ vs. vs ++ drop n (replicate 8 (pos 0))) c.copy_from_slice.ensures.after ∙ ap (λ zs. c.args.values.now ++ zs) (drop-replicate n 8 (pos 0))
