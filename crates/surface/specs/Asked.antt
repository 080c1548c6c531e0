-- The answer to a question: the value where P holds, and else the refusal for a slice or station that is not there.
use Rattle.std.specs.Prelude.{◌≡◌, Ok, Err, Result}
use Rattle.surface.specs.declared.fault.SurfaceFault.{SurfaceFault}
use Rattle.surface.specs.declared.fault.SurfaceFault.TheVariants.{Absent}

abbrev pub Asked : {T : Type 0} → Result T SurfaceFault → Type 0 → T → Type 0
Asked (Ok x) P v = P × (x ≡ v)
Asked (Err e) P v = (P → ⊥) × (e ≡ Absent)
