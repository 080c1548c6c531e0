-- The answer to a call that answers nothing but whether it was taken.
use Rattle.std.specs.Prelude.{Some, None, Option}
use Rattle.card.specs.declared.answers.Answer.{Answer}
use Rattle.card.specs.declared.answers.Answer.TheVariants.{Refused, Done}
use Rattle.card.specs.declared.fault.JobFault.{JobFault}

abbrev pub plain_answer : Option JobFault → Answer
plain_answer None = Done
plain_answer (Some e) = Refused e
