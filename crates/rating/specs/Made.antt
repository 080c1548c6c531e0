-- What a call of a job does: it is refused exactly for its cause, and the card is then as the call leaves it.
use Rattle.std.specs.Prelude.{◌≡◌, Some, None, Ok, Err, Option, Result}
use Rattle.card.specs.Steps.{cause, step}
use Rattle.card.specs.declared.calls.Call.{Call}
use Rattle.card.specs.declared.entries.Card.{Card}
use Rattle.card.specs.declared.fault.JobFault.{JobFault}

pub record Made (before after : Card) (call : Call) (fault : Option JobFault) : Type 0 where
  pub judged : fault ≡ cause before call
  pub steps : after ≡ step before call

-- the fault beside what a refusal gives back
abbrev pub fault_beside : {X D : Type 0} → Result X (D × JobFault) → Option JobFault
fault_beside (Ok _) = None
fault_beside (Err e) = Some e.1
