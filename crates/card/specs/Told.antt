-- What a fault of a job tells its reader, by one definition.
use Rattle.std.specs.Prelude.{ℕ}
use Rattle.table.specs.Told.{telling}
use Rattle.table.specs.declared.fault.Report.{Report}
use Rattle.table.specs.declared.fault.Layer.TheVariants.{Job}
use Rattle.surface.specs.Told.{surface_told}
use Rattle.card.specs.declared.fault.JobFault.{JobFault}
use Rattle.card.specs.declared.fault.JobFault.TheVariants.{Surface, Kerbs, Factor, DutyOpen, NotOpen, Short}

-- the job layer's refusals have no place in any text
abbrev pub by_job : ℕ → Report
by_job n = telling n Job 0 0

abbrev pub job_told : JobFault → Report
job_told (Surface f) = surface_told f
job_told Kerbs = by_job 5
job_told Factor = by_job 6
job_told DutyOpen = by_job 7
job_told NotOpen = by_job 8
job_told Short = by_job 9
