-- A record of a table by the format's rules: sound fields with commas between them, up to CR LF or the end.
use Rattle.std.specs.Prelude.{◌≡◌, ℕ, ◌+◌, ◌<◌, ◌≤◌, List, [], ◌∷◌, ◌++◌, length, drop}
use Rattle.std.specs.List.{AllByRecursion}
use Rattle.table.specs.declared.cursor.Cursor.{Cursor}
use Rattle.table.specs.declared.fault.TextFault.{TextFault}
use Rattle.table.specs.declared.fault.TextFault.TheVariants.{Malformed, TooLong}
use Rattle.table.specs.declared.field.FieldEnd.{FieldEnd}
use Rattle.table.specs.declared.line.LineEnd.{LineEnd}
use Rattle.table.specs.Cells.{Cell, cell_of, written, Sound, Closes, Stands, MalformedAt}

-- the most bytes that a table may have
abbrev pub most_bytes : ℕ
most_bytes = 65536

-- what the input has from the cursor on
abbrev pub text_at : Cursor → List ℕ
text_at c = drop c.at c.input.now

-- the bytes of a record: its fields with a comma between each two
abbrev pub joined : List Cell → List ℕ
joined [] = []
joined (t ∷ []) = written t
joined (t ∷ u ∷ us) = written t ++ (44 ∷ joined (u ∷ us))

-- the fields ts make the record at the front of xs, and ys is what follows it
pub record Line (ts : List Cell) (xs ys : List ℕ) : Type 0 where
  pub splits : xs ≡ joined ts ++ ys
  pub sound : AllByRecursion Sound ts
  pub some : 1 ≤ length ts
  pub closes : Closes ys

-- the bytes of fields with a comma after each
abbrev pub led : List Cell → List ℕ
led [] = []
led (t ∷ ts) = written t ++ (44 ∷ led ts)

-- xs begins with the fields ts and a comma after each, and ys is what follows
pub record Begins (ts : List Cell) (xs ys : List ℕ) : Type 0 where
  pub splits : xs ≡ led ts ++ ys
  pub sound : AllByRecursion Sound ts

-- the first field that does not stand is the f-th of those from xs on
pub record Broken (xs : List ℕ) (f : ℕ) : Type 0 where
  pub before : List Cell
  pub rest : List ℕ
  pub begins : Begins before xs rest
  pub place : f ≡ length before + 1
  pub malformed : MalformedAt rest

-- what reading one field hands back: the field that stands from byte `at` on, its place, and where the next byte stands
pub record FieldRead (input : List ℕ) (at rec fld : ℕ) (e : FieldEnd) : Type 0 where
  pub stands : Stands (cell_of e.field.text) (drop at input) (drop e.next input)
  pub in_record : e.field.«record» ≡ rec
  pub in_field : e.field.field ≡ fld
  pub width : e.next ≡ at + length (written (cell_of e.field.text))
  pub within : at ≤ length input → e.next ≤ length input

-- after a record that ends at byte e the next one begins at byte n: after CR LF, or at the end of the table
pub data Leaves (input : List ℕ) (e n : ℕ) : Type 0 where
  at_end : drop e input ≡ [] → n ≡ e → Leaves input e n
  at_line : drop e input ≡ 13 ∷ 10 ∷ drop n input → n ≡ e + 2 → Leaves input e n

-- what reading one record hands back: how many fields it has, where its text ends, and where the next record begins
pub record LineRead (input : List ℕ) (at : ℕ) (e : LineEnd) : Type 0 where
  pub cells : List Cell
  pub line : Line cells (drop at input) (drop e.end input)
  pub count : e.fields ≡ length cells
  pub low : at ≤ e.end
  pub within : at ≤ length input → e.end ≤ length input
  pub leaves : Leaves input e.end e.next
  pub next_within : at ≤ length input → e.next ≤ length input
  pub short : length input ≤ most_bytes

-- a record is refused where a field of it does not stand, at the first such field, and where the table is too long
abbrev pub LineRefused : List ℕ → ℕ → ℕ → TextFault → Type 0
LineRefused input at rec (Malformed r f) = (r ≡ rec) × Broken (drop at input) f × (length input ≤ most_bytes)
LineRefused input at rec TooLong = most_bytes < length input
