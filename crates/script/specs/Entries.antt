-- Records that each say one entry: S says which, and U why one says none.
use Rattle.std.specs.Prelude.{ℕ, ◌+◌, ◌<◌, List, [], ◌∷◌, ◌++◌, length}
use Rattle.surface.specs.declared.fault.SurfaceFault.{SurfaceFault}
use Rattle.surface.specs.declared.fault.SurfaceFault.TheVariants.{Text}
use Rattle.table.specs.Cells.{Cell}
use Rattle.table.specs.Lines.{Line, Broken}
use Rattle.table.specs.Tables.{ReadUpTo}
use Rattle.table.specs.declared.fault.TextFault.{TextFault}
use Rattle.table.specs.declared.fault.TextFault.TheVariants.{Malformed}

-- the records say these entries, one each and in order
pub data Entries {E : Type 0} (S : List Cell → E → Type 0) : List (List Cell) → List E → Type 0 where
  none : Entries S [] []
  more : {rs : List (List Cell)} {es : List E} (cs : List Cell) (e : E) → Entries S rs es → S cs e → Entries S (rs ++ (cs ∷ [])) (es ++ (e ∷ []))

-- some records of the text are read and say these entries, and `rest` is left
pub record Partly {E : Type 0} (S : List Cell → E → Type 0) (text : List ℕ) (es : List E) (rest : List ℕ) : Type 0 where
  pub records : List (List Cell)
  pub reads : ReadUpTo records text rest
  pub entries : Entries S records es

-- all are
abbrev pub Entered : {E : Type 0} → (List Cell → E → Type 0) → List ℕ → List E → Type 0
Entered S text es = Partly S text es []

-- the first record that says no entry stops the reading; the first of all has the number rec
pub data Stopped {E : Type 0} (S : List Cell → E → Type 0) (U : ℕ → List Cell → TextFault → Type 0) (rec : ℕ) (text : List ℕ) : SurfaceFault → Type 0 where
  broken : (es : List E) (rest : List ℕ) (f : ℕ) (p : Partly S text es rest) → 0 < length rest → Broken rest f → Stopped S U rec text (Text (Malformed (rec + length p.records) f))
  said_none : (es : List E) (rest : List ℕ) (cs : List Cell) (ys : List ℕ) (t : TextFault) (p : Partly S text es rest) → 0 < length rest → Line cs rest ys → U (rec + length p.records) cs t → Stopped S U rec text (Text t)
