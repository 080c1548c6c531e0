-- What changes the card and what does not: over every card, and over any calls between a reduction and its withdrawal.
use Rattle.std.specs.Prelude.{◌≡◌, ◌+◌, true, List, Some, None}
use Rattle.model.specs.declared.weights.Factors.{Factors}
use Rattle.model.specs.declared.weights.LoadKind.{LoadKind}
use Rattle.card.specs.Steps.{cause, step, card_after, duty_open}
use Rattle.card.specs.declared.calls.Call.{Call}
use Rattle.card.specs.declared.calls.Call.TheVariants.{Reduce, Posted, Withdraw, Figure, Drawing}
use Rattle.card.specs.declared.calls.Lengths.{Lengths}
use Rattle.card.specs.declared.entries.Card.{Card}
use Rattle.card.specs.declared.fault.JobFault.{JobFault}

-- The card d while the duty of a reduction to f is open, which was taken under the card c.
pub record WhileOpen (c : Card) (f : Factors) (d : Card) : Type 0 where
  pub reduced : d.factors ≡ f
  pub withdraw_taken : cause d (Withdraw c.number (c.count + 1)) ≡ None
  pub post_taken : cause d (Posted c.number (c.count + 1)) ≡ None
  -- withdraw gives back exactly the factors that were in force before, posted keeps the reduced ones, and then no duty is open
  pub withdrawn : (step d (Withdraw c.number (c.count + 1))).factors ≡ c.factors
  pub withdrawn_shut : (step d (Withdraw c.number (c.count + 1))).serial ≡ 0
  pub posted : (step d (Posted c.number (c.count + 1))).factors ≡ f
  pub posted_shut : (step d (Posted c.number (c.count + 1))).serial ≡ 0

pub record ChangesStand : Type 0 where
  pub refused : (c : Card) (call : Call) (e : JobFault) → cause c call ≡ Some e → step c call ≡ c
  pub figure : (c : Card) (kind : LoadKind) (l : Lengths) → step c (Figure kind l) ≡ c
  pub drawing : (c : Card) (kind : LoadKind) (l : Lengths) → step c (Drawing kind l) ≡ c
  -- a reduction that is taken opens its duty
  pub opened : (c : Card) (f : Factors) → cause c (Reduce f) ≡ None → duty_open (step c (Reduce f)) ≡ true
  -- after a reduction that is taken and any further calls, as long as its serial is the open one
  pub while_open : (c : Card) (f : Factors) → cause c (Reduce f) ≡ None → (calls : List Call) → (card_after (step c (Reduce f)) calls).serial ≡ c.count + 1
      → WhileOpen c f (card_after (step c (Reduce f)) calls)
