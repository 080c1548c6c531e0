-- The record of a lane start where no tandem stands.
use Rattle.std.specs.Prelude.{None}
use Rattle.model.specs.declared.tandems.Tandem.{Tandem}

abbrev pub no_tandem : Tandem
no_tandem = record { t = 0; place = None }
