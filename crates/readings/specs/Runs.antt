-- A run's table: its header and its rows, which draft and rows they make, and what the table is refused for.
use Rattle.std.specs.Prelude.{◌≡◌, ℕ, ◌+◌, ◌-◌, ◌<◌, ◌≤◌, List, [], ◌∷◌, ◌++◌, length, drop, ℤ, pos, ◌+ℤ◌, Ok, Err, ◌≢◌, slice_index_or, slice_set}
use Rattle.measured.specs.Judged.{Begun, header_judged, station_judged, row_of}
use Rattle.measured.specs.declared.row.Row.{Row}
use Rattle.surface.specs.declared.fault.SurfaceFault.{SurfaceFault}
use Rattle.surface.specs.declared.fault.SurfaceFault.TheVariants.{Text}
use Rattle.table.specs.Cells.{Cell, content}
use Rattle.table.specs.Lines.{Line, Broken}
use Rattle.table.specs.Tables.{Passes, ReadUpTo}
use Rattle.table.specs.declared.fault.TextFault.TheVariants.{Malformed, TooLong}
use Rattle.table.specs.Numbers.{Writes}
use Rattle.records.specs.Numbers.{Written, Unwritten}

-- ---- the header: `mm`, then the slice of each path

abbrev pub SaysMm : Cell → Type 0
SaysMm c = content c ≡ 109 ∷ 109 ∷ []

-- how many slices the deck of these paths has: the first, the last and one more
abbrev pub slices_of : List ℤ → ℤ
slices_of ps = slice_index_or ps 0 (pos 0) +ℤ slice_index_or ps (length ps - 1) (pos 0) +ℤ pos 1

-- the header's fields say `mm` and the paths ps, and these are lawful
pub record Headed (cs : List Cell) (ps : List ℤ) : Type 0 where
  pub word : Cell
  pub others : List Cell
  pub splits : cs ≡ word ∷ others
  pub says : SaysMm word
  pub paths : Written Writes others ps
  pub lawful : header_judged (slices_of ps) ps ≡ Ok tt

-- the draft that a header begins
pub record Opened (cs : List Cell) (slices count : ℕ) (paths : List ℕ) (filled : ℕ) : Type 0 where
  pub numbers : List ℤ
  pub headed : Headed cs numbers
  pub begun : Begun (slices_of numbers) numbers slices count paths filled

-- why a header is refused: its word, then the first path that is no number, then the counts and the paths
pub data HeaderRefused : List Cell → SurfaceFault → Type 0 where
  word : (c : Cell) (cs : List Cell) → (SaysMm c → ⊥) → HeaderRefused (c ∷ cs) (Text (Malformed 1 1))
  number : (c : Cell) (cs : List Cell) (i : ℕ) → SaysMm c → Unwritten Writes cs i → HeaderRefused (c ∷ cs) (Text (Malformed 1 (i + 2)))
  paths : (c : Cell) (cs : List Cell) (ps : List ℤ) (f : SurfaceFault) → SaysMm c → Written Writes cs ps → header_judged (slices_of ps) ps ≡ Err f → HeaderRefused (c ∷ cs) f

-- ---- the rows: place, then one ordinate a path

-- with m paths the records cs, one after the other, are taken as stations and turn the rows `old` into `new`
pub data FilledBy (m : ℕ) (old : List Row) : List (List Cell) → List Row → Type 0 where
  none : FilledBy m old [] old
  next : {rs : List (List Cell)} {rows : List Row} (cs : List Cell) (z : ℤ) (vs : List ℤ)
      → FilledBy m old rs rows → Written Writes cs (z ∷ vs) → length vs ≡ m → station_judged m (length rs) rows z vs ≡ Ok tt
      → FilledBy m old (rs ++ (cs ∷ [])) (slice_set rows (length rs) (row_of m z vs))

-- why a row is refused that comes after k stations: its number of fields, then the first that is no number, then the station
pub data RowRefused (m k : ℕ) (rows : List Row) (cs : List Cell) : SurfaceFault → Type 0 where
  fields : (length cs ≢ m + 1) → RowRefused m k rows cs (Text (Malformed (k + 2) 0))
  number : (i : ℕ) → length cs ≡ m + 1 → Unwritten Writes cs i → RowRefused m k rows cs (Text (Malformed (k + 2) (i + 1)))
  station : (z : ℤ) (vs : List ℤ) (f : SurfaceFault) → length vs ≡ m → Written Writes cs (z ∷ vs) → station_judged m k rows z vs ≡ Err f → RowRefused m k rows cs f

-- ---- the table

-- why the header is refused: a field that does not stand, or what the fields say
pub data HeaderStops (input : List ℕ) : SurfaceFault → Type 0 where
  text : (f : ℕ) → Broken input f → HeaderStops input (Text (Malformed 1 f))
  said : (cs : List Cell) (ys : List ℕ) (f : SurfaceFault) → Line cs input ys → HeaderRefused cs f → HeaderStops input f

-- why the row is refused with which `rest` begins
pub data RowStops (m k : ℕ) (rows : List Row) (rest : List ℕ) : SurfaceFault → Type 0 where
  text : (f : ℕ) → Broken rest f → RowStops m k rows rest (Text (Malformed (k + 2) f))
  said : (cs : List Cell) (ys : List ℕ) (f : SurfaceFault) → Line cs rest ys → RowRefused m k rows cs f → RowStops m k rows rest f

-- the row with which the text from byte `at` on begins is taken as station k, and the next begins at byte `next`
pub record RowTaken (m k : ℕ) (old : List Row) (input : List ℕ) (at next : ℕ) (new : List Row) : Type 0 where
  pub cells : List Cell
  pub after : List ℕ
  pub place : ℤ
  pub ordinates : List ℤ
  pub line : Line cells (drop at input) after
  pub passes : Passes after (drop next input)
  pub written : Written Writes cells (place ∷ ordinates)
  pub count : length ordinates ≡ m
  pub lawful : station_judged m k old place ordinates ≡ Ok tt
  pub filled : new ≡ slice_set old k (row_of m place ordinates)
  pub onward : at < next
  pub within : next ≤ length input

-- the header and so many rows were read and taken, with the paths ps, and the text `rest` is left
pub record Reached (input : List ℕ) (old rows : List Row) (ps : List ℤ) (stations : ℕ) (rest : List ℕ) : Type 0 where
  pub header : List Cell
  pub rows_read : List (List Cell)
  pub reads : ReadUpTo (header ∷ rows_read) input rest
  pub headed : Headed header ps
  pub filled : FilledBy (length ps) old rows_read rows
  pub counted : stations ≡ length rows_read

-- the whole table was read and taken: these are the draft and the rows that it makes
pub record RunTaken (input : List ℕ) (old rows : List Row) (slices count : ℕ) (paths : List ℕ) (stations : ℕ) : Type 0 where
  pub numbers : List ℤ
  pub short : length input ≤ 65536
  pub reached : Reached input old rows numbers stations []
  pub begun : Begun (slices_of numbers) numbers slices count paths 0

-- why a table is refused: its length, no record at all, its header, or the first row that is refused
pub data RunRefused (input : List ℕ) (old : List Row) : SurfaceFault → Type 0 where
  long : 65536 < length input → RunRefused input old (Text TooLong)
  empty : input ≡ [] → RunRefused input old (Text (Malformed 1 0))
  header : (f : SurfaceFault) → length input ≤ 65536 → 0 < length input → HeaderStops input f → RunRefused input old f
  row : (rows : List Row) (ps : List ℤ) (k : ℕ) (rest : List ℕ) (f : SurfaceFault)
      → length input ≤ 65536 → Reached input old rows ps k rest → 0 < length rest → RowStops (length ps) k rows rest f → RunRefused input old f
