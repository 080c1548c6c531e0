use Rattle.std.proofs.Common.{◌≡◌, ℕ, ◌<◌, true, length, get_or, take, None, sym, ap, ◌∙◌, subst, arith}
use Rattle.std.proofs.lemmas.List.{get_or_default}
use Rattle.card.specs.Bounds.{kerbs_fit}
use Rattle.card.specs.Steps.{card_after, opening}
use Rattle.card.specs.declared.calls.Call.TheVariants.{Kerbs as SetKerbs}
use Rattle.card.specs.declared.entries.Card.{Card}
use Rattle.card.specs.declared.fault.JobFault.TheVariants.{Kerbs}
use Rattle.statement.specs.Runs.{Told}
use Rattle.rating.proofs.Asked.{unless_none}
use Rattle.rating.proofs.Runs.{Sofar, sofar_more}
use Rattle.rating.proofs.Replayed.{replayed, still_fits}
use Rattle.rating.proofs.replay.replay.Goals as goal

pub loop-i-preserved : goal.loop-i-preserved
loop-i-preserved g c =
    let shape = g.S.Surface.shape in
    let inv = c.loop-i.invariant in
    let e = c.make.ensures in
    let calls = c.args.calls.now in
    let i = c.loop-i.i in
    let call = get_or calls i (SetKerbs (record { first = 0; width = 0 })) in
    let o = c.in_ok-job.ensures in
    let s = shape c.args.surface in
    let fit = (unless_none (kerbs_fit s.slices c.args.kerbs) Kerbs None o.judged).0 in
    let now_card : c.loop-i.job.card ≡ card_after (opening c.args.number s.slices c.args.kerbs) (take i calls) = inv.1.card ∙ ap (λ (x : Card). card_after x (take i calls)) o.opened.0 in
    let laid = still_fits s c.args.number c.args.kerbs (take i calls) c.loop-i.job.card fit now_card in
    let surfaces = inv.0 ∙ o.opened.1 in
    let laid_here = subst (λ (x : g.row.S.Denot). kerbs_fit (shape x).slices c.loop-i.job.card.kerbs ≡ true) (sym surfaces) laid in
    let t = subst (λ (x : g.row.S.Denot). Told (shape x) c.loop-i.job.card call c.make.result) inv.0 (e.told laid_here) in
    let room : i < length c.loop-i.answers = omega (arith, c.loop-i.auto.answers, c.loop-i-test.true, c.if-answers-calls.false) in (
      e.surface ∙ inv.0,
      sofar_more (shape c.in_ok-job.job.surface) c.in_ok-job.job.card c.loop-i.job.card c.make.new.job.card calls c.args.answers.now c.loop-i.answers i call c.make.result
          inv.1 c.loop-i-test.true room (λ z. get_or_default calls i z (SetKerbs (record { first = 0; width = 0 })) c.loop-i-test.true) t e.steps,
    )

pub returns : goal.returns
returns g c =
    let shape = g.S.Surface.shape in
    let s = shape c.args.surface in
    let calls = c.args.calls.now in
    let o = c.in_ok-job.ensures in
    let inv = c.loop-i.invariant.1 in
    let fit = (unless_none (kerbs_fit s.slices c.args.kerbs) Kerbs None o.judged).0 in
    let last : c.loop-i.i ≡ length calls = omega (arith, c.loop-i-test.false, c.loop-i.auto.i-end) in
    let f1 = subst (λ (x : g.row.S.Denot). Sofar (shape x) c.in_ok-job.job.card c.loop-i.job.card calls c.args.answers.now c.loop-i.answers c.loop-i.i) o.opened.1 inv in
    let f2 = subst (λ (x : Card). Sofar s x c.loop-i.job.card calls c.args.answers.now c.loop-i.answers c.loop-i.i) o.opened.0 f1 in
    let f3 = subst (λ (n : ℕ). Sofar s (opening c.args.number s.slices c.args.kerbs) c.loop-i.job.card calls c.args.answers.now c.loop-i.answers n) last f2 in
    replayed (λ d. d.number) (λ d. d.serial) s (g.S.Surface.lawful c.args.surface) c.args.number c.args.kerbs calls c.args.answers.now c.loop-i.answers c.loop-i.job.card c.open_duty.result (omega (arith, c.if-answers-calls.false)) fit f3 c.open_duty.ensures
