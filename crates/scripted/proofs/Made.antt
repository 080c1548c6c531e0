-- A run that was made, and one that was refused, leave what is said.
use Rattle.std.proofs.Common.{◌≡◌, ℕ, ◌≤◌, Bool, true, false, cond, leb, List, length, IfOk, Some, None, Ok, Err, Option, Result, sym, refl, ap, ◌∙◌, arith}
use Rattle.std.proofs.lemmas.Bool.Decides.{nat_tests}
use Rattle.surface.specs.Shape.{Shape}
use Rattle.table.specs.declared.fault.Report.{Report}
use Rattle.model.specs.declared.lanes.Carriageway.{Carriageway}
use Rattle.card.specs.Bounds.{kerbs_fit}
use Rattle.card.specs.Steps.{opening, open_cause, card_after, unless}
use Rattle.card.specs.Told.{job_told}
use Rattle.card.specs.declared.answers.Answer.{Answer}
use Rattle.card.specs.declared.calls.Call.{Call}
use Rattle.card.specs.declared.fault.JobFault.{JobFault}
use Rattle.card.specs.declared.fault.JobFault.TheVariants.{Kerbs, Short}
use Rattle.statement.specs.Runs.{Duty, Replayed, duty_of, duty_told}
use Rattle.rating.proofs.Asked.{unless_none}
use Rattle.table.specs.Told.{refusal_text}
use Rattle.scripted.specs.Runs.{RanSo, RunText, OpenedLines, bytes_in, duty_left}
use Rattle.scripted.specs.Runs as runs

kept : (b : Bool) (x : Option Duty) → b ≡ true → cond b x None ≡ x
kept true x e = refl
kept false x e = let z : ◌≡◌ {A = ℕ} 0 1 = cc in absurd (omega arith)

unless_some : (b : Bool) (e f : JobFault) (o : Option JobFault) → b ≡ true → Some f ≡ unless b e o → Some f ≡ o
unless_some true e f o h k = k
unless_some false e f o h k = let z : ◌≡◌ {A = ℕ} 0 1 = cc in absurd (omega arith)

none_left : (b : Bool) (f : JobFault) (x : Option Duty) → Some f ≡ unless b Kerbs None → None ≡ cond b x None
none_left true f x h = let z : ◌≡◌ {A = ℕ} 0 1 = cc in absurd (omega arith)
none_left false f x h = refl

module _ {X Y D : Type 0} (bytes : X → List ℕ) (num ser : D → ℕ) (s : Shape) (number : ℕ) (kerbs : Carriageway) (calls : List Call) (before after : List Answer) (room : length calls ≤ length before) where
  pub run_made : (d : Option D) (r : Result X Y) → Replayed num ser s number kerbs calls before after (Ok d) → IfOk r (λ x. OpenedLines calls after (bytes x)) → RanSo s number kerbs calls (bytes_in bytes r) (duty_told num ser d)
  run_made d r p m = by r m
    where
      fit : kerbs_fit s.slices kerbs ≡ true
      fit = (unless_none (kerbs_fit s.slices kerbs) Kerbs None (unless_none (leb (length calls) (length before)) Short (open_cause s.slices kerbs) p.judged).1).0

      left : duty_told num ser d ≡ duty_left s number kerbs calls
      left = p.left d refl ∙ sym (kept (kerbs_fit s.slices kerbs) (duty_of (card_after (opening number s.slices kerbs) calls)) fit)

      by : (r : Result X Y) → IfOk r (λ x. OpenedLines calls after (bytes x)) → RanSo s number kerbs calls (bytes_in bytes r) (duty_told num ser d)
      by (Ok x) o = runs.ran (bytes x) (duty_told num ser d) (runs.opened after (p.whole d refl) o) left
      by (Err y) o = runs.unwritten (duty_told num ser d) left

  pub run_refused : (f : JobFault) (rep : Report) (r : Result X Y) → Replayed num ser s number kerbs calls before after (Err f) → rep ≡ job_told f → IfOk r (λ x. bytes x ≡ refusal_text rep) → RanSo s number kerbs calls (bytes_in bytes r) None
  run_refused f rep r p tells-it m = by r m
    where
      long : leb (length calls) (length before) ≡ true
      long = grind (arith, nat_tests)

      cause : Some f ≡ open_cause s.slices kerbs
      cause = unless_some (leb (length calls) (length before)) Short f (open_cause s.slices kerbs) long p.judged

      left : None ≡ duty_left s number kerbs calls
      left = none_left (kerbs_fit s.slices kerbs) f (duty_of (card_after (opening number s.slices kerbs) calls)) cause

      by : (r : Result X Y) → IfOk r (λ x. bytes x ≡ refusal_text rep) → RanSo s number kerbs calls (bytes_in bytes r) None
      by (Ok x) o = runs.ran (bytes x) None (runs.not_opened f (sym cause) (o ∙ ap refusal_text tells-it)) left
      by (Err y) o = runs.unwritten None left
