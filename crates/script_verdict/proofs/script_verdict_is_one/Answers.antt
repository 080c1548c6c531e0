use Rattle.script_verdict.proofs.One.{one_script}
use Rattle.script_verdict.proofs.script_verdict_is_one.Goals as goal

pub returns : goal.returns
returns c = one_script
