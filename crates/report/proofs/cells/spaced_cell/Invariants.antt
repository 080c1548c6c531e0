use Rattle.std.proofs.Common.{◌≡◌, ◌++◌, get_or, take, string_bytes, decimal}
use Rattle.std.specs.List.{flat_map}
use Rattle.report.specs.Texts.{after_blank}
use Rattle.report.proofs.cells.spaced_cell.Given as goal

abbrev pub invariant-loop-number : goal.invariant-loop-number
invariant-loop-number l = string_bytes l.text ≡ decimal (get_or l.numbers 0 0) ++ flat_map after_blank (take l.number-index l.rest)
