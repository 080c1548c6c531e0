-- A job over the whole deck is opened, both figures are taken, and no duty is left open.
use Rattle.std.proofs.Common.{◌≡◌, ℕ, ◌+◌, ◌*◌, ◌/◌, ◌≤◌, Bool, true, false, leb, List, length, Some, None, Option, sym, refl, ap, ◌∙◌, arith}
use Rattle.std.proofs.lemmas.Bool.Decides.{nat_tests}
use Rattle.surface.specs.Shape.{Shape, Lawful}
use Rattle.card.specs.Ample.{ample}
use Rattle.card.specs.Bounds.{kerbs_fit}
use Rattle.card.specs.Steps.{card_after, cause, if_taken, opening, step, unless}
use Rattle.card.specs.declared.answers.Answer.{Answer}
use Rattle.card.specs.declared.calls.Call.TheVariants.{Figure}
use Rattle.card.specs.declared.calls.Lengths.{Lengths}
use Rattle.card.specs.declared.entries.Card.{Card}
use Rattle.card.specs.declared.fault.JobFault.{JobFault}
use Rattle.card.specs.declared.fault.JobFault.TheVariants.{Kerbs, Short}
use Rattle.model.specs.declared.weights.LoadKind.{LoadKind}
use Rattle.model.specs.declared.weights.LoadKind.TheVariants.{Characteristic, Frequent}
use Rattle.statement.specs.Runs.{duty_of, duty_told, unmade}
use Rattle.rated.specs.Ratings.{across, both_figures, whole_deck}

pub deck_fits : (s : Shape) → Lawful s → kerbs_fit s.slices (whole_deck s) ≡ true
deck_fits s w =
    let low : 30 ≤ s.slices / 2 = omega (arith, w.wide) in
    let high : s.slices / 2 ≤ 150 = omega (arith, w.narrow) in
    let inside : 0 + 2 * (s.slices / 2) ≤ s.slices = omega arith in
    grind (arith, nat_tests)

same : (o : Option JobFault) (c : Card) → if_taken o c c ≡ c
same None c = refl
same (Some e) c = refl

-- a figure leaves the card as it was
figure_steps : (c : Card) (kind : LoadKind) (l : Lengths) → step c (Figure kind l) ≡ c
figure_steps c kind l = same (cause c (Figure kind l)) c

after_figures : (c : Card) → card_after c both_figures ≡ c
after_figures c = figure_steps (step c (Figure Characteristic ample)) Frequent ample ∙ figure_steps c Characteristic ample

-- a job of which only figures were asked has no open duty
pub none_left : {D : Type 0} (number serial : D → ℕ) (n m : ℕ) (o : Option D) (d : D) → o ≡ Some d → duty_told number serial o ≡ duty_of (card_after (opening 0 n (across m)) both_figures) → ⊥
none_left number serial n m o d is e =
    let f : duty_told number serial o ≡ None = e ∙ ap duty_of (after_figures (opening 0 n (across m))) in
    let g : duty_told number serial (Some d) ≡ None = ap (duty_told number serial) (sym is) ∙ f in
    let z : ◌≡◌ {A = ℕ} 0 1 = cc in
    omega arith

unless_met : (b : Bool) (e : JobFault) (o : Option JobFault) → b ≡ true → unless b e o ≡ o
unless_met true e o h = refl
unless_met false e o h = let z : ◌≡◌ {A = ℕ} 0 1 = cc in absurd (omega arith)

-- it is opened
pub no_fault : (s : Shape) → Lawful s → (n : ℕ) → n ≡ s.slices → (answers : List Answer) → 2 ≤ length answers → (f : JobFault) → Some f ≡ unmade s (across n) both_figures answers → ⊥
no_fault s w n is answers room f h =
    let e = h ∙ ap (λ (m : ℕ). unmade s (across m) both_figures answers) is in
    let long : leb 2 (length answers) ≡ true = grind (arith, nat_tests) in
    let none : unmade s (whole_deck s) both_figures answers ≡ None = unless_met (leb 2 (length answers)) Short _ long ∙ unless_met (kerbs_fit s.slices (whole_deck s)) Kerbs None (deck_fits s w) in
    let z : ◌≡◌ {A = ℕ} 0 1 = (let t = e ∙ none in cc) in
    omega arith
