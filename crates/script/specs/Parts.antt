-- The surface's part of a script.
use Rattle.std.specs.Prelude.{ℕ, ◌+◌, ◌⊎◌, List, [], ◌∷◌, length, drop}
use Rattle.std.specs.List.{AllByRecursion}
use Rattle.table.specs.Cells.{Cell}
use Rattle.table.specs.Lines.{Line, Broken}
use Rattle.table.specs.Tables.{ReadUpTo}
use Rattle.script.specs.Lines.{Says}
use Rattle.script.specs.Words.{edge_word, turned_word, open_word}

-- ---- where the surface is over

-- the record begins with `turned` or `open`
abbrev pub LeadsOn : List Cell → Type 0
LeadsOn cs = Says cs turned_word ⊎ Says cs open_word

-- none of the records after the first does
abbrev pub Stays : List (List Cell) → Type 0
Stays [] = Unit {0}
Stays (r ∷ rs) = AllByRecursion (λ cs. LeadsOn cs → ⊥) rs

-- the part ends at this byte, and the record after it has the number next: before the first record after the first that begins so,
-- or with the script, where there is none before its end or before a record that does not stand
pub data EndsAt (input : List ℕ) : ℕ → ℕ → Type 0 where
  followed : (end : ℕ) (r : List Cell) (rs : List (List Cell)) (cs : List Cell) (ys : List ℕ) → ReadUpTo (r ∷ rs) input (drop end input) → Stays (r ∷ rs) → Line cs (drop end input) ys → LeadsOn cs → EndsAt input end (length (r ∷ rs) + 1)
  last : (rs : List (List Cell)) → ReadUpTo rs input [] → Stays rs → EndsAt input (length input) (length rs + 1)
  broken : (rs : List (List Cell)) (rest : List ℕ) (f : ℕ) → ReadUpTo rs input rest → Stays rs → Broken rest f → EndsAt input (length input) (length rs + 1)

-- ---- which kind of surface

-- the first record says `edge`
pub record BeginsEdge (input : List ℕ) : Type 0 where
  pub cells : List Cell
  pub after : List ℕ
  pub line : Line cells input after
  pub says : Says cells edge_word
