-- What a fault of a surface tells its reader, by one definition.
use Rattle.table.specs.Told.{telling, text_told}
use Rattle.table.specs.declared.fault.Report.{Report}
use Rattle.table.specs.declared.fault.Layer.TheVariants.{Surface}
use Rattle.surface.specs.declared.fault.SurfaceFault.{SurfaceFault}
use Rattle.surface.specs.declared.fault.SurfaceFault.TheVariants.{Text, Counts, Place, Ordinate, Short, Absent}

abbrev pub surface_told : SurfaceFault → Report
surface_told (Text f) = text_told f
surface_told (Counts r f) = telling 2 Surface r f
surface_told (Place r f) = telling 3 Surface r f
surface_told (Ordinate r f) = telling 4 Surface r f
surface_told (Short r) = telling 9 Surface r 0
surface_told Absent = telling 10 Surface 0 0
