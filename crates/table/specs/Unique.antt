-- What the bytes of a table determine: the field at a place, the fields of a record or its first fault, and a field's number.
use Rattle.std.specs.Prelude.{◌≡◌, ℕ, List, ℤ}
use Rattle.table.specs.Cells.{Cell, Stands}
use Rattle.table.specs.Lines.{Line, Broken}
use Rattle.table.specs.Numbers.{Writes}

pub record Unique : Type 0 where
  pub of_field : (t u : Cell) (xs ys zs : List ℕ) → Stands t xs ys → Stands u xs zs → (t ≡ u) × (ys ≡ zs)
  pub of_record : (ts us : List Cell) (xs ys zs : List ℕ) → Line ts xs ys → Line us xs zs → (ts ≡ us) × (ys ≡ zs)
  pub of_fault : (xs : List ℕ) (f g : ℕ) → Broken xs f → Broken xs g → f ≡ g
  pub never_both : (ts : List Cell) (xs ys : List ℕ) (f : ℕ) → Line ts xs ys → Broken xs f → ⊥
  pub of_number : (bs : List ℕ) (v w : ℤ) → Writes bs v → Writes bs w → v ≡ w
