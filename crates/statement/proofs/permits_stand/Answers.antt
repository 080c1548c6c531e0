-- What may be arranged.
use Rattle.statement.proofs.permits_stand.Goals as goal
use Rattle.statement.proofs.Permits.{every_order, every_place, no_tandem, every_loading}

pub returns : goal.returns
returns c = record { orders = every_order; places = every_place; empty = no_tandem; loadings = every_loading }
