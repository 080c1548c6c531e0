use Rattle.std.proofs.lemmas.Result.{IfOk-weaker}
use Rattle.rated.proofs.text.figure_lines.Goals as goal

pub returns : goal.returns
returns c =
    IfOk-weaker c.format.result _ _
    (λ s h. record { first = _; second = _; first_line = c.in_ok-first.ensures; second_line = c.in_ok-second.ensures; written = h })
    c.format.ensures.ok
