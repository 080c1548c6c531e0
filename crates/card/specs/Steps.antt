-- What the arguments of the calls, and nothing else, put in force on the job card; and why a call is refused.
use Rattle.std.specs.Prelude.{ℕ, ◌+◌, ◌*◌, Bool, true, false, not, ◌&&◌, List, [], ◌∷◌, Some, None, Option, ◌==◌, nat_le, nat_lt}
use Rattle.model.specs.Lanes.{breadth}
use Rattle.model.specs.declared.lanes.Carriageway.{Carriageway}
use Rattle.model.specs.declared.weights.Factors.{Factors}
use Rattle.card.specs.Bounds.{kerbs_fit, in_bounds, some_reduced}
use Rattle.card.specs.declared.entries.Card.{Card}
use Rattle.card.specs.declared.calls.Lengths.{Lengths}
use Rattle.card.specs.declared.calls.Call.{Call}
use Rattle.card.specs.declared.calls.Call.TheVariants.{Kerbs as SetKerbs, Factors as SetFactors, Reduce, Posted, Withdraw, Figure, Drawing}
use Rattle.card.specs.declared.fault.JobFault.{JobFault}
use Rattle.card.specs.declared.fault.JobFault.TheVariants.{Kerbs, Factor, DutyOpen, NotOpen, Short}

-- ---- causes

-- the refusal where the test fails, else what comes next
abbrev pub unless : Bool → JobFault → Option JobFault → Option JobFault
unless true e o = o
unless false e o = Some e

abbrev pub duty_open : Card → Bool
duty_open c = not (c.serial == 0)

-- the duty with this job number and serial is the open one
abbrev pub is_open : Card → ℕ → ℕ → Bool
is_open c number serial = duty_open c && (number == c.number && serial == c.serial)

-- the lists of a figure or a drawing reach as far as the carriageway asks
abbrev pub long_enough : Carriageway → Lengths → Bool
long_enough k l = nat_le (breadth k) l.areas && (nat_le (breadth k) l.tandems && (nat_le (24 * (breadth k + 1)) l.bests && nat_le (breadth k) l.owners))

abbrev pub cause : Card → Call → Option JobFault
cause c (SetKerbs k) = unless (kerbs_fit c.slices k) Kerbs None
cause c (SetFactors f) = unless (not (duty_open c)) DutyOpen (unless (in_bounds 80 100 f) Factor None)
cause c (Reduce f) = unless (not (duty_open c) && nat_lt c.count 65535) DutyOpen (unless (in_bounds 40 40 f && some_reduced f) Factor None)
cause c (Posted number serial) = unless (is_open c number serial) NotOpen None
cause c (Withdraw number serial) = unless (is_open c number serial) NotOpen None
cause c (Figure _ l) = unless (long_enough c.kerbs l) Short None
cause c (Drawing _ l) = unless (long_enough c.kerbs l) Short None

-- ---- steps

-- what a call that is taken writes
abbrev pub writes : Card → Call → Card
writes c (SetKerbs k) = record { number = c.number; slices = c.slices; kerbs = k; factors = c.factors; earlier = c.earlier; serial = c.serial; count = c.count }
writes c (SetFactors f) = record { number = c.number; slices = c.slices; kerbs = c.kerbs; factors = f; earlier = c.earlier; serial = c.serial; count = c.count }
writes c (Reduce f) = record { number = c.number; slices = c.slices; kerbs = c.kerbs; factors = f; earlier = c.factors; serial = c.count + 1; count = c.count + 1 }
writes c (Posted _ _) = record { number = c.number; slices = c.slices; kerbs = c.kerbs; factors = c.factors; earlier = c.earlier; serial = 0; count = c.count }
writes c (Withdraw _ _) = record { number = c.number; slices = c.slices; kerbs = c.kerbs; factors = c.earlier; earlier = c.earlier; serial = 0; count = c.count }
writes c (Figure _ _) = c
writes c (Drawing _ _) = c

abbrev pub if_taken : Option JobFault → Card → Card → Card
if_taken None taken before = taken
if_taken (Some _) taken before = before

abbrev pub step : Card → Call → Card
step c call = if_taken (cause c call) (writes c call) c

abbrev pub hundred : Factors
hundred = record { tandem1 = 100; tandem2 = 100; tandem3 = 100; uniform1 = 100; uniform2 = 100; uniform3 = 100; others = 100; remaining = 100 }

-- the card that open writes, and why open is refused
abbrev pub opening : ℕ → ℕ → Carriageway → Card
opening number slices kerbs = record { number = number; slices = slices; kerbs = kerbs; factors = hundred; earlier = hundred; serial = 0; count = 0 }

abbrev pub open_cause : ℕ → Carriageway → Option JobFault
open_cause slices kerbs = unless (kerbs_fit slices kerbs) Kerbs None

-- the card after some calls
abbrev pub card_after : Card → List Call → Card
card_after c [] = c
card_after c (k ∷ ks) = card_after (step c k) ks
