-- Two runs of the same calls, call by call.
use Rattle.std.proofs.Common.{◌≡◌, take, refl}
use Rattle.surface.specs.Shape.{Shape}
use Rattle.worths.specs.Kinds.{effect_kind, kerbed_kind, kerbed}
use Rattle.card.specs.Steps.{cause, opening, card_after}
use Rattle.card.specs.declared.answers.Answer.{Answer}
use Rattle.card.specs.declared.answers.Answer.TheVariants.{Done}
use Rattle.card.specs.declared.calls.Call.{Call}
use Rattle.card.specs.declared.calls.Call.TheVariants.{Kerbs as SetKerbs, Factors as SetFactors, Reduce, Posted, Withdraw, Figure, Drawing}
use Rattle.card.specs.declared.entries.Card.{Card}
use Rattle.statement.specs.Runs.{figure_in, in_force, Answered, Told, Alike}
use Rattle.statement.proofs.Figures.{effect_counts, kerbed_counts}
use Rattle.statement.proofs.Runs.{nth_some, alike_by, level, taken_level, told_at}
use Rattle.doubts.specs.Determined.{OneRun}
use Rattle.doubts.proofs.Determined.{one_figure}

module _ (s : Shape) (c : Card) (a b : Answer) where
  same_figure : (call : Call) → Answered s c call a → Answered s c call b → figure_in a ≡ figure_in b
  same_figure (SetKerbs k) t u = level a b Done Done t u refl
  same_figure (SetFactors x) t u = level a b Done Done t u refl
  same_figure (Reduce x) t u = level a b _ _ t u refl
  same_figure (Posted n m) t u = level a b Done Done t u refl
  same_figure (Withdraw n m) t u = level a b Done Done t u refl
  same_figure (Figure k l) t u = taken_level effect_kind (λ e j. e) s s c c k a b (one_figure effect_kind (λ e j. e) effect_counts effect_kind (λ e j. e) effect_counts (in_force s c k)) t u
  same_figure (Drawing k l) t u = taken_level kerbed_kind kerbed s s c c k a b (one_figure kerbed_kind kerbed kerbed_counts kerbed_kind kerbed kerbed_counts (in_force s c k)) t u

  told_alike : (call : Call) → Told s c call a → Told s c call b → Alike a b
  told_alike call t u = alike_by a b (cause c call) t.judged u.judged (λ h. same_figure call (t.taken h) (u.taken h))

pub one_run : OneRun
one_run s number kerbs calls answers others met again i a b l is_a is_b =
    let k = nth_some calls i l in
    told_alike s (card_after (opening number s.slices kerbs) (take i calls)) a b k.0
    (told_at s number kerbs calls answers met i k.0 a k.1 is_a) (told_at s number kerbs calls others again i k.0 b k.1 is_b)
