-- Whether the first record stands, and then whether it says so.
use Rattle.std.proofs.Common.{◌∙◌, sym}
use Rattle.script.proofs.Surface.{edge_read, edge_unread}
use Rattle.script.proofs.part.says_edge.Goals as goal

pub returns-then-is_ok : goal.returns-then-is_ok
returns-then-is_ok c =
    let l = rw c.start-start.ensures at c.line.ensures in
    let d = rw c.start-start.ensures at c.begins_with.ensures in
    edge_read c.line.result (sym c.is_ok.ensures.value ∙ c.if-is_ok.true) l d

pub returns-else-is_ok : goal.returns-else-is_ok
returns-else-is_ok c =
    let l = rw c.start-start.ensures at c.line.ensures in
    edge_unread c.line.result c.args.script.short c.if-is_ok.false c.is_ok.ensures.value l
