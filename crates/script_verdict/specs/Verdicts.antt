-- A script has one verdict: it is read or refused, never both, and in one way only.
use Rattle.std.specs.Prelude.{◌≡◌, ℕ, List}
use Rattle.surface.specs.Shape.{Shape}
use Rattle.surface.specs.declared.fault.SurfaceFault.{SurfaceFault}
use Rattle.model.specs.declared.lanes.Carriageway.{Carriageway}
use Rattle.card.specs.declared.calls.Call.{Call}
use Rattle.script.specs.declared.turns.Turns.{Turns}
use Rattle.scripted.specs.Scripts.{ScriptSays, ScriptRefused}

pub record OneScript : Type 0 where
  pub of_fault : (input : List ℕ) (f g : SurfaceFault) → ScriptRefused input f → ScriptRefused input g → f ≡ g
  pub never_both : (input : List ℕ) (s : Shape) (t : Turns) (number : ℕ) (kerbs : Carriageway) (calls : List Call) (f : SurfaceFault) → ScriptSays input s t number kerbs calls → ScriptRefused input f → ⊥
  pub of_script : (input : List ℕ) (s s' : Shape) (t t' : Turns) (number number' : ℕ) (kerbs kerbs' : Carriageway) (calls calls' : List Call)
      → ScriptSays input s t number kerbs calls → ScriptSays input s' t' number' kerbs' calls'
      → (s ≡ s') × (t ≡ t') × (number ≡ number') × (kerbs ≡ kerbs') × (calls ≡ calls')
