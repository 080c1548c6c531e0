use Rattle.verdict.proofs.One.{one_verdict}
use Rattle.verdict.proofs.verdict_is_one.Goals as goal

pub returns : goal.returns
returns c = one_verdict
