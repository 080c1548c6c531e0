-- A field of a table by the format's rules: how it is written, which fields are sound, and where one stands.
use Rattle.std.specs.Prelude.{◌≡◌, ℕ, ◌+◌, ◌<◌, List, [], ◌∷◌, ◌++◌, length, take, drop, ◌≢◌}
use Rattle.std.specs.List.{AllByRecursion}
use Rattle.table.specs.declared.field.Text.{Text}
use Rattle.table.specs.declared.field.Text.TheVariants.{Plain, Quoted}

-- a field as it is written: bare, or between quotes
pub data Cell : Type 0 where
  plain : List ℕ → Cell
  quoted : List ℕ → Cell

abbrev pub cell_of : Text → Cell
cell_of (Plain s) = plain s.now
cell_of (Quoted s) = quoted s.now

-- the bytes of a field without the quotes around it; a quote between them stands twice, as written
abbrev pub content : Cell → List ℕ
content (plain bs) = bs
content (quoted bs) = bs

-- the bytes that a field takes in the table
abbrev pub written : Cell → List ℕ
written (plain bs) = bs
written (quoted bs) = 34 ∷ (bs ++ (34 ∷ []))

-- neither a comma nor a quote, CR or LF
abbrev pub Bare : ℕ → Type 0
Bare b = (b ≢ 44) × (b ≢ 34) × (b ≢ 13) × (b ≢ 10)

-- no bare byte stands at the front
abbrev pub Stops : List ℕ → Type 0
Stops xs = (b : ℕ) (ys : List ℕ) → xs ≡ b ∷ ys → Bare b → ⊥

-- no quote stands at the front
abbrev pub Unquoted : List ℕ → Type 0
Unquoted xs = (ys : List ℕ) → xs ≢ 34 ∷ ys

-- quotes stand only in pairs
pub data Paired : List ℕ → Type 0 where
  empty : Paired []
  pair : {bs : List ℕ} → Paired bs → Paired (34 ∷ 34 ∷ bs)
  other : {b : ℕ} {bs : List ℕ} → (b ≢ 34) → Paired bs → Paired (b ∷ bs)

-- a bare field has only bare bytes; between quotes every byte may stand, a quote twice
abbrev pub Sound : Cell → Type 0
Sound (plain bs) = AllByRecursion Bare bs
Sound (quoted bs) = Paired bs

-- what may follow a record: the end of the table, or CR LF
pub data Closes (xs : List ℕ) : Type 0 where
  at_end : xs ≡ [] → Closes xs
  at_line : (ys : List ℕ) → xs ≡ 13 ∷ 10 ∷ ys → Closes xs

-- what may follow a field: a comma, or what may follow a record
pub data Ends (xs : List ℕ) : Type 0 where
  at_comma : (ys : List ℕ) → xs ≡ 44 ∷ ys → Ends xs
  at_close : Closes xs → Ends xs

-- the field t stands at the front of xs, and ys is what follows it
pub record Stands (t : Cell) (xs ys : List ℕ) : Type 0 where
  pub splits : xs ≡ written t ++ ys
  pub sound : Sound t
  pub ends : Ends ys

-- the field t stands at the front of xs
abbrev pub InFront : Cell → List ℕ → Type 0
InFront t xs = Stands t xs (drop (length (written t)) xs)

-- no field stands at the front of xs
abbrev pub MalformedAt : List ℕ → Type 0
MalformedAt xs = (t : Cell) (ys : List ℕ) → Stands t xs ys → ⊥

-- the first quote that is not one of a pair stands at n
pub record ClosedAt (xs : List ℕ) (n : ℕ) : Type 0 where
  pub paired : Paired (take n xs)
  pub within : n < length xs
  pub quote : drop n xs ≡ 34 ∷ drop (n + 1) xs
  pub alone : Unquoted (drop (n + 1) xs)
