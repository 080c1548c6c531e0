-- What is said of a fault of a script, said of more.
use Rattle.surface.specs.declared.fault.SurfaceFault.{SurfaceFault}
use Rattle.script.specs.Faults.{IfTold}
use Rattle.script.specs.declared.fault.ScriptFault.{ScriptFault}
use Rattle.script.specs.declared.fault.ScriptFault.TheVariants.{Told, Memory}

pub told_weaker : (P Q : SurfaceFault → Type 0) → ((f : SurfaceFault) → P f → Q f) → (e : ScriptFault) → IfTold P e → IfTold Q e
told_weaker P Q h (Told f) p = h f p
told_weaker P Q h Memory p = tt
