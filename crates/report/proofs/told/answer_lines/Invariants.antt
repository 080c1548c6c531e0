use Rattle.std.proofs.Common.{string_bytes}
use Rattle.report.proofs.Runs.{Completes}
use Rattle.report.proofs.told.answer_lines.Given as goal

abbrev pub invariant-loop-call : goal.invariant-loop-call
invariant-loop-call l = Completes l.calls l.answers l.call-iterator.a.rest.now l.call-iterator.b.rest.now (string_bytes l.text)
