-- Rows that are lent before anything is read.
use Rattle.std.specs.Prelude.{List, replicate, pos}
use Rattle.measured.specs.declared.row.Row.{Row}

-- 64 rows with nothing in them
abbrev pub blank_rows : List Row
blank_rows = replicate 64 (record { place = 0; ordinates = replicate 8 (pos 0) })
