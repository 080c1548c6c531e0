use Rattle.algebra.proofs.Frac.{trans, adds, scales}
use Rattle.algebra.proofs.Round.{ceils}
use Rattle.algebra.proofs.fractions_stand.Goals as goal

pub returns : goal.returns
returns c = record { trans = λ a b c h k. trans h k; adds = λ a b c d h k. adds h k; scales = scales; ceil = ceils }
