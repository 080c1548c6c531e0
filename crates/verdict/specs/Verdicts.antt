-- A table has one verdict: it is taken or refused, never both, and in one way only.
use Rattle.std.specs.Prelude.{◌≡◌, ℕ, List}
use Rattle.measured.specs.declared.row.Row.{Row}
use Rattle.readings.specs.Runs.{RunTaken, RunRefused}
use Rattle.surface.specs.declared.fault.SurfaceFault.{SurfaceFault}

pub record OneVerdict : Type 0 where
  pub of_fault : (input : List ℕ) (old : List Row) (f g : SurfaceFault) → RunRefused input old f → RunRefused input old g → f ≡ g
  pub never_both : (input : List ℕ) (old rows : List Row) (n m : ℕ) (ps : List ℕ) (k : ℕ) (f : SurfaceFault) → RunTaken input old rows n m ps k → RunRefused input old f → ⊥
  pub of_rows : (input : List ℕ) (old rows rows' : List Row) (n n' m m' : ℕ) (ps ps' : List ℕ) (k k' : ℕ) → RunTaken input old rows n m ps k → RunTaken input old rows' n' m' ps' k'
      → (rows ≡ rows') × (n ≡ n') × (m ≡ m') × (ps ≡ ps') × (k ≡ k')
