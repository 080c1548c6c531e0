use Rattle.std.proofs.Common.{rules}
use Rattle.script.proofs.Splits.{split_leads, both_ways}
use Rattle.script.proofs.part.leads_on.Goals as goal

pub returns : goal.returns
returns c = λ cs ys l. both_ways c.read_first.result c.is_ok_and.ensures (c.read_first.ensures.split cs ys l) (λ f told s. split_leads s (search rules)) (λ e told none. absurd none)
