-- What a figure or a drawing answers, by any kind of worth.
use Rattle.std.specs.Prelude.{◌≡◌, ℕ, None}
use Rattle.surface.specs.Shape.{Shape}
use Rattle.model.specs.declared.weights.LoadKind.{LoadKind}
use Rattle.placing.specs.Kind.{Kind}
use Rattle.card.specs.Steps.{long_enough, unless}
use Rattle.card.specs.declared.answers.Answer.{Answer}
use Rattle.card.specs.declared.calls.Lengths.{Lengths}
use Rattle.card.specs.declared.entries.Card.{Card}
use Rattle.card.specs.declared.fault.JobFault.TheVariants.{Short}
use Rattle.statement.specs.Runs.{Taken, refusal_in}

-- it is refused exactly where a list of these lengths is too short, and else tells the winner by this worth
pub record Asked {W : Type 0} (K : Kind W) (made : ℕ → ℕ → W) (s : Shape) (c : Card) (kind : LoadKind) (l : Lengths) (a : Answer) : Type 0 where
  pub judged : refusal_in a ≡ unless (long_enough c.kerbs l) Short None
  pub taken : unless (long_enough c.kerbs l) Short None ≡ None → Taken K made s c kind a
