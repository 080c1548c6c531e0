-- The slices of the owner are counted along the list.
use Rattle.std.proofs.Common.{◌≡◌, ap, sym, ◌∙◌, rules, arith}
use Rattle.std.proofs.lemmas.List.{take_all}
use Rattle.std.specs.Prelude.{◌==◌, count_by}
use Rattle.report.proofs.Counts.{counted}
use Rattle.report.proofs.others.owned_slices.Goals as goal

pub returns : goal.returns
returns c =
    let owners = c.args.owners.now in
    let e : c.count.result ≡ count_by (λ x. x == c.args.owner) owners = search rules in
    let long = c.told-owners in
    e ∙ ap (count_by (λ x. x == c.args.owner)) (sym (take_all 300 owners (omega arith))) ∙ counted owners c.args.owner 300 (omega arith)
