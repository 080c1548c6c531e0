use Rattle.std.proofs.Common.{List, subst, arith}
use Rattle.card.specs.declared.answers.Answer.{Answer}
use Rattle.rated.specs.Ratings.{RatedTable}
use Rattle.rated.proofs.Pairs.{two}
use Rattle.std.proofs.lemmas.Result.{IfOk-weaker}
use Rattle.rated.specs.Texts as texts
use Rattle.rated.proofs.text.sheet_text.Goals as goal

pub returns-in-Ok : goal.returns-in-Ok
returns-in-Ok c =
    let xs = c.rate_table.new.answers in
    IfOk-weaker c.figure_lines.result _ _
    (λ s b. texts.figures _ _ (subst (λ (l : List Answer). RatedTable c.args.input.now l) (two _ xs (omega arith)) c.in-Ok.ensures) b)
    c.figure_lines.ensures

pub returns-in-Err : goal.returns-in-Err
returns-in-Err c = IfOk-weaker c.refusal_line.result _ _ (λ s e. texts.refusal c.in-Err.fault c.in-Err.ensures e) c.refusal_line.ensures
