-- Each byte before the first that is not bare is bare.
use Rattle.std.proofs.Common.{ℕ, ◌<◌, get_or, take, sym, subst, arith}
use Rattle.std.proofs.ByRecursion.{All-from_get_or}
use Rattle.std.proofs.lemmas.Grind.{common_steps}
use Rattle.std.proofs.lemmas.List.{get_or-take, length-take}
use Rattle.table.specs.Cells.{Bare}
use Rattle.table.proofs.field.bare_length.Goals as goal

pub returns-clause-bare : goal.returns-clause-bare
returns-clause-bare c =
    let xs = c.args.rest.now in
    let n = c.unwrap_or.result in
    let each : (k : ℕ) → k < n → Bare (get_or xs k 0) = λ k l. grind (arith, common_steps) in
    All-from_get_or Bare (take n xs) 0 (λ k l. let inside : k < n = omega (arith, length-take n xs) in subst Bare (sym (get_or-take n xs k 0 inside)) (each k inside))
