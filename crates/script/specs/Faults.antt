-- What is said of a fault of a script: something of what is told, and nothing where memory lacks.
use Rattle.surface.specs.declared.fault.SurfaceFault.{SurfaceFault}
use Rattle.script.specs.declared.fault.ScriptFault.{ScriptFault}
use Rattle.script.specs.declared.fault.ScriptFault.TheVariants.{Told, Memory}

abbrev pub IfTold : (SurfaceFault → Type 0) → ScriptFault → Type 0
IfTold P (Told f) = P f
IfTold P Memory = Unit {0}
