-- A record by its first field and the others.
use Rattle.std.specs.Prelude.{◌≡◌, ℕ, ◌<◌, List, [], ◌∷◌, length}
use Rattle.table.specs.Cells.{Cell, content}
use Rattle.table.specs.Lines.{Line}

-- c is the first of the fields cs, and the others stand at the front of rest
pub record Split (cs : List Cell) (c : Cell) (rest ys : List ℕ) : Type 0 where
  pub others : List Cell
  pub splits : cs ≡ c ∷ others
  pub line : 0 < length others → Line others rest ys

-- the record begins with this word
abbrev pub Says : List Cell → List ℕ → Type 0
Says [] w = ⊥
Says (c ∷ cs) w = content c ≡ w
