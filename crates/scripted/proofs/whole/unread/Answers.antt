use Rattle.std.proofs.Common.{None, string_bytes, sym, subst}
use Rattle.scripted.specs.Runs.{bytes_in}
use Rattle.scripted.specs.Scripts.{Unread}
use Rattle.scripted.specs.Scripts as scripts
use Rattle.scripted.proofs.Judged.{told_unread}
use Rattle.scripted.proofs.whole.unread.Goals as goal
use Rattle.scripted.proofs.whole.unread.Goals.{in-Told, in-Memory}

pub returns : goal.returns
returns c =
    elim c.match-fault.branch [
      | in-Told w ↦ told_unread string_bytes c.args.fault w.in-Told.f w.from.result w.line-text.result c.match-fault.text w.in-Told.is w.from.ensures w.line-text.ensures w.text-is
      | in-Memory w ↦ subst (λ t. Unread c.args.fault (bytes_in string_bytes t) None) (sym w.text-is) (scripts.unwritten c.args.fault)
    ]
