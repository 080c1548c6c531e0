use Rattle.std.proofs.Common.{◌≤◌, List, length, None, string_bytes, subst, arith}
use Rattle.card.specs.declared.calls.Call.{Call}
use Rattle.statement.specs.Runs.{duty_told}
use Rattle.scripted.specs.Runs.{RanSo, bytes_in}
use Rattle.scripted.proofs.Made.{run_made, run_refused}
use Rattle.scripted.proofs.answers.answered.Goals as goal

pub returns-in-Ok : goal.returns-in-Ok
returns-in-Ok g c =
    let s = g.S.Surface.shape c.args.surface in
    let o = c.args.tail.now.opening in
    let room : length c.as_slice-calls.result.now ≤ length c.args.answers.now = omega (arith, c.as_slice-calls.ensures.len) in
    subst (λ (ks : List Call). RanSo s o.number o.kerbs ks (bytes_in string_bytes c.run_text.result) (duty_told (λ d. d.number) (λ d. d.serial) c.in-Ok.duty)) c.as_slice-calls.ensures.value
    (run_made string_bytes (λ d. d.number) (λ d. d.serial) s o.number o.kerbs c.as_slice-calls.result.now c.args.answers.now c.replay.new.answers room c.in-Ok.duty c.run_text.result c.in-Ok.ensures c.run_text.ensures)

pub returns-in-Err : goal.returns-in-Err
returns-in-Err g c =
    let s = g.S.Surface.shape c.args.surface in
    let o = c.args.tail.now.opening in
    let room : length c.as_slice-calls.result.now ≤ length c.args.answers.now = omega (arith, c.as_slice-calls.ensures.len) in
    subst (λ (ks : List Call). RanSo s o.number o.kerbs ks (bytes_in string_bytes c.line.result) None) c.as_slice-calls.ensures.value
    (run_refused string_bytes (λ d. d.number) (λ d. d.serial) s o.number o.kerbs c.as_slice-calls.result.now c.args.answers.now c.replay.new.answers room c.in-Err.fault c.from.result c.line.result c.in-Err.ensures c.from.ensures c.line.ensures)
