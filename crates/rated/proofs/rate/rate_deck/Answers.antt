use Rattle.std.proofs.Common.{refl, arith}
use Rattle.rated.proofs.Decks.{none_left, no_fault}
use Rattle.rated.proofs.rate.rate_deck.Goals as goal

pub returns-in_err-replay : goal.returns-in_err-replay
returns-in_err-replay g c =
    let s = g.S.Surface.shape c.args.surface in
    absurd (no_fault s (g.S.Surface.lawful c.args.surface) c.slices-width.result c.slices-width.ensures c.args.answers.now (omega arith) c.in_err-replay.field-0.0 c.in_err-replay.ensures.judged)

pub unreachable-requires : goal.unreachable-requires
unreachable-requires g c =
    let s = g.S.Surface.shape c.args.surface in
    none_left _ _ s.slices c.slices-width.result c.in_ok-replay.field-0 c.in-Some.field-0 c.in-Some.is (c.in_ok-replay.ensures.left c.in_ok-replay.field-0 refl)
