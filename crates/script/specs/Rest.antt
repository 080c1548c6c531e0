-- The natural numbers that follow a record's word.
use Rattle.std.specs.Prelude.{◌≡◌, ℕ, List, length, ◌≢◌}
use Rattle.table.specs.Cells.{Cell}
use Rattle.table.specs.Numbers.{Counts}
use Rattle.table.specs.declared.fault.TextFault.{TextFault}
use Rattle.table.specs.declared.fault.TextFault.TheVariants.{Malformed}
use Rattle.records.specs.Numbers.{Written, Missed}

-- the fields write these natural numbers
abbrev pub Naturals : List Cell → List ℕ → Type 0
Naturals = Written Counts

-- why the fields after a word are not n natural numbers: their number comes first
pub data NotNumbers (rec n : ℕ) (ds : List Cell) : TextFault → Type 0 where
  count : (length ds ≢ n) → NotNumbers rec n ds (Malformed rec 0)
  number : (e : TextFault) → length ds ≡ n → Missed Counts ds rec 2 e → NotNumbers rec n ds e
