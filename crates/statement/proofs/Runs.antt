-- The same calls over the surface turned, and the whole of a run.
use Rattle.std.proofs.Common.{◌≡◌, ℕ, zero, suc, ◌+◌, ◌<◌, Bool, true, false, cond, leb, List, [], ◌∷◌, length, take, Some, None, Option, sym, refl, ap, ◌∙◌, subst, arith}
use Rattle.std.specs.List.{slice_get}
use Rattle.std.proofs.lemmas.Bool.{leb-true, le-leb, and_parts, and_from}
use Rattle.surface.specs.Shape.{Shape, Lawful, side_for_side, end_for_end}
use Rattle.model.specs.Lanes.{breadth, mirror}
use Rattle.model.specs.declared.lanes.Carriageway.{Carriageway}
use Rattle.model.specs.declared.tandems.Tandem.{Tandem}
use Rattle.model.specs.declared.weights.LoadKind.{LoadKind}
use Rattle.placing.specs.Kind.{Kind, Counts}
use Rattle.worths.specs.Kinds.{effect_kind, kerbed_kind, kerbed}
use Rattle.card.specs.Bounds.{kerbs_fit}
use Rattle.card.specs.Steps.{cause, step, writes, if_taken, unless, opening, card_after}
use Rattle.card.specs.declared.entries.Card.{Card}
use Rattle.card.specs.declared.answers.Answer.{Answer}
use Rattle.card.specs.declared.answers.Answer.TheVariants.{Refused, Done, Handed, Rated}
use Rattle.card.specs.declared.calls.Call.{Call}
use Rattle.card.specs.declared.calls.Call.TheVariants.{Kerbs as SetKerbs, Factors as SetFactors, Reduce, Posted, Withdraw, Figure, Drawing}
use Rattle.card.specs.declared.fault.JobFault.{JobFault}
use Rattle.card.specs.declared.fault.JobFault.TheVariants.{Kerbs}
use Rattle.statement.specs.Lanes.{Laid}
use Rattle.statement.specs.Effects.{Setting}
use Rattle.statement.specs.Figures.{Figured}
use Rattle.statement.specs.Turns.{sides_turned, ends_turned, facing}
use Rattle.statement.specs.Runs.{refusal_in, figure_in, in_force, Taken, Answered, Told, Met, mirrored_call, mirrored, Alike, MetServes}
use Rattle.statement.proofs.Effects.{none_some, some_is}
use Rattle.statement.proofs.Figures.{effect_counts, kerbed_counts}
use Rattle.statement.proofs.Turns.{Facing, keeps_laid, keeps, keeps_facing, keeps_ends}

-- ---- small facts
unless_none : (b : Bool) (e : JobFault) → unless b e None ≡ None → b ≡ true
unless_none true e h = refl
unless_none false e h = none_some e (sym h)

pub nth_some : {X : Type 0} (xs : List X) (i : ℕ) → i < length xs → (x : X) × (slice_get xs i ≡ Some x)
nth_some [] i h = absurd (omega arith)
nth_some (x ∷ xs) zero h = (x, refl)
nth_some (x ∷ xs) (suc i) h = nth_some xs i (omega arith)

-- ---- two figures
module _ {W : Type 0} (K : Kind W) (made : ℕ → ℕ → W) (counts : Counts K made) (g : Setting) (lawful : Lawful g.surface) (f f' : ℕ) (T T' : ℕ → Tandem) (o o' : List ℕ) where
  figures_sides : kerbs_fit g.surface.slices g.kerbs ≡ true → Figured K made g f T o → Figured K made (sides_turned g) f' T' o' → f ≡ f'
  figures_sides fit t u =
      let k = g.kerbs in
      let n = g.surface.slices in
      let there = facing k t.starts in
      let here = facing k u.starts in
      let back = keeps_laid (mirror n k) n u.starts u.winner.laid in
      let laid_here : Laid k here = record { inside = back.inside; apart = back.apart } in
      let m : Facing k here u.starts = λ i h. omega (arith, u.winner.laid.inside i h) in
      let up = counts.led _ _ _ _ (u.winner.greatest there (keeps_laid k n t.starts t.winner.laid)) in
      let down = counts.led _ _ _ _ (t.winner.greatest here laid_here) in
      let e = keeps g lawful fit T T' t.known u.known t.starts t.winner.laid in
      let e' = keeps_facing g lawful fit T T' t.known u.known here u.starts m in
      let a = t.attained in
      let b = u.attained in
      omega (arith, up, down, e, e', a, b)

  figures_ends : Figured K made g f T o → Figured K made (ends_turned g) f' T' o' → f ≡ f'
  figures_ends t u =
      let up = counts.led _ _ _ _ (u.winner.greatest t.starts t.winner.laid) in
      let down = counts.led _ _ _ _ (t.winner.greatest u.starts u.winner.laid) in
      let e = keeps_ends g lawful T T' t.known u.known t.starts t.winner.laid in
      let e' = keeps_ends g lawful T T' t.known u.known u.starts u.winner.laid in
      let a = t.attained in
      let b = u.attained in
      omega (arith, up, down, e, e', a, b)

-- ---- two answers
refused_figure : (a : Answer) (e : JobFault) → refusal_in a ≡ Some e → figure_in a ≡ None
refused_figure (Refused _) e h = refl
refused_figure Done e h = refl
refused_figure (Handed _ _) e h = refl
refused_figure (Rated r j) e h = none_some e h

pub alike_by : (a b : Answer) (o : Option JobFault) → refusal_in a ≡ o → refusal_in b ≡ o → (o ≡ None → figure_in a ≡ figure_in b) → Alike a b
alike_by a b None h k f = record { refusals = h ∙ sym k; figures = f refl }
alike_by a b (Some e) h k f = record { refusals = h ∙ sym k; figures = refused_figure a e h ∙ sym (refused_figure b e k) }

pub level : (a b x y : Answer) → a ≡ x → b ≡ y → figure_in x ≡ figure_in y → figure_in a ≡ figure_in b
level a b x y e f h = ap figure_in e ∙ h ∙ sym (ap figure_in f)

-- two figures over two surfaces are the same
abbrev pub SameFigures : {W : Type 0} → Kind W → (ℕ → ℕ → W) → Setting → Setting → Type 0
SameFigures K made g h = (f f' : ℕ) (T T' : ℕ → Tandem) (o o' : List ℕ) → Figured K made g f T o → Figured K made h f' T' o' → f ≡ f'

module _ {W : Type 0} (K : Kind W) (made : ℕ → ℕ → W) (s s' : Shape) (c c' : Card) (kind : LoadKind) (a b : Answer) where
  pub taken_level : SameFigures K made (in_force s c kind) (in_force s' c' kind) → Taken K made s c kind a → Taken K made s' c' kind b → figure_in a ≡ figure_in b
  taken_level same t u = level a b _ _ t.answer u.answer (ap Some (same _ _ _ _ _ _ t.figured u.figured))

-- ---- the card over the surface turned side for side
abbrev mirrored_card : Card → Card
mirrored_card c = record { number = c.number; slices = c.slices; kerbs = mirror c.slices c.kerbs; factors = c.factors; earlier = c.earlier; serial = c.serial; count = c.count }

abbrev Fit : Card → Type 0
Fit c = kerbs_fit c.slices c.kerbs ≡ true

mirror_fits : (n : ℕ) (k : Carriageway) → kerbs_fit n k ≡ true → kerbs_fit n (mirror n k) ≡ true
mirror_fits n k e =
    let p = and_parts (leb 30 k.width) _ e in
    let q = and_parts (leb k.width 150) _ p.1 in
    let on = leb-true (k.first + breadth k) n q.1 in
    and_from (leb 30 k.width) _ p.0 (and_from (leb k.width 150) _ q.0 (le-leb _ _ (omega arith)))

judged_alike : (n : ℕ) (k : Carriageway) (b : Bool) → kerbs_fit n k ≡ b → kerbs_fit n (cond b (mirror n k) k) ≡ b
judged_alike n k true e = mirror_fits n k e
judged_alike n k false e = e

cause_mirrored : (c : Card) (k : Call) → cause (mirrored_card c) (mirrored_call c k) ≡ cause c k
cause_mirrored c (SetKerbs k) = ap (λ b. unless b Kerbs None) (judged_alike c.slices k (kerbs_fit c.slices k) refl)
cause_mirrored c (SetFactors x) = refl
cause_mirrored c (Reduce x) = refl
cause_mirrored c (Posted n m) = refl
cause_mirrored c (Withdraw n m) = refl
cause_mirrored c (Figure k l) = refl
cause_mirrored c (Drawing k l) = refl

writes_mirrored : (c : Card) (k : Call) → cause c k ≡ None → writes (mirrored_card c) (mirrored_call c k) ≡ mirrored_card (writes c k)
writes_mirrored c (SetKerbs k) h = ap (λ b. writes (mirrored_card c) (SetKerbs (cond b (mirror c.slices k) k))) (unless_none (kerbs_fit c.slices k) Kerbs h)
writes_mirrored c (SetFactors x) h = refl
writes_mirrored c (Reduce x) h = refl
writes_mirrored c (Posted n m) h = refl
writes_mirrored c (Withdraw n m) h = refl
writes_mirrored c (Figure k l) h = refl
writes_mirrored c (Drawing k l) h = refl

step_by : (c : Card) (k : Call) (o : Option JobFault) → cause c k ≡ o → if_taken o (writes (mirrored_card c) (mirrored_call c k)) (mirrored_card c) ≡ mirrored_card (if_taken o (writes c k) c)
step_by c k None h = writes_mirrored c k h
step_by c k (Some e) h = refl

step_mirrored : (c : Card) (k : Call) → step (mirrored_card c) (mirrored_call c k) ≡ mirrored_card (step c k)
step_mirrored c k = ap (λ o. if_taken o (writes (mirrored_card c) (mirrored_call c k)) (mirrored_card c)) (cause_mirrored c k) ∙ step_by c k (cause c k) refl

-- ---- what every step keeps
writes_fits : (c : Card) → Fit c → (k : Call) → cause c k ≡ None → Fit (writes c k)
writes_fits c f (SetKerbs k) h = unless_none (kerbs_fit c.slices k) Kerbs h
writes_fits c f (SetFactors x) h = f
writes_fits c f (Reduce x) h = f
writes_fits c f (Posted n m) h = f
writes_fits c f (Withdraw n m) h = f
writes_fits c f (Figure k l) h = f
writes_fits c f (Drawing k l) h = f

fits_by : (c : Card) → Fit c → (k : Call) (o : Option JobFault) → cause c k ≡ o → Fit (if_taken o (writes c k) c)
fits_by c f k None h = writes_fits c f k h
fits_by c f k (Some e) h = f

pub fits_after : (c : Card) → Fit c → (ks : List Call) → Fit (card_after c ks)
fits_after c f [] = f
fits_after c f (k ∷ ks) = fits_after (step c k) (fits_by c f k (cause c k) refl) ks

writes_slices : (c : Card) (k : Call) → (writes c k).slices ≡ c.slices
writes_slices c (SetKerbs k) = refl
writes_slices c (SetFactors x) = refl
writes_slices c (Reduce x) = refl
writes_slices c (Posted n m) = refl
writes_slices c (Withdraw n m) = refl
writes_slices c (Figure k l) = refl
writes_slices c (Drawing k l) = refl

slices_by : (c : Card) (k : Call) (o : Option JobFault) → (if_taken o (writes c k) c).slices ≡ c.slices
slices_by c k None = writes_slices c k
slices_by c k (Some e) = refl

pub slices_after : (c : Card) (ks : List Call) → (card_after c ks).slices ≡ c.slices
slices_after c [] = refl
slices_after c (k ∷ ks) = slices_after (step c k) ks ∙ slices_by c k (cause c k)

-- ---- along a list of calls
cards_mirrored : (c : Card) (ks : List Call) (i : ℕ) → card_after (mirrored_card c) (take i (mirrored c ks)) ≡ mirrored_card (card_after c (take i ks))
cards_mirrored c [] zero = refl
cards_mirrored c [] (suc i) = refl
cards_mirrored c (k ∷ ks) zero = refl
cards_mirrored c (k ∷ ks) (suc i) = ap (λ x. card_after x (take i (mirrored (step c k) ks))) (step_mirrored c k) ∙ cards_mirrored (step c k) ks i

nth_mirrored : (c : Card) (ks : List Call) (i : ℕ) (k : Call) → slice_get ks i ≡ Some k → slice_get (mirrored c ks) i ≡ Some (mirrored_call (card_after c (take i ks)) k)
nth_mirrored c [] i k e = none_some k e
nth_mirrored c (x ∷ ks) zero k e = let q : x ≡ k = some_is x k e in ap (λ t. Some (mirrored_call c t)) q
nth_mirrored c (x ∷ ks) (suc i) k e = nth_mirrored (step c x) ks i k e

-- ---- one call, both ways
module _ (s : Shape) (lawful : Lawful s) (c : Card) (a b : Answer) where
  module _ (same : c.slices ≡ s.slices) (fit : Fit c) where
    sides_figured : {W : Type 0} (K : Kind W) (made : ℕ → ℕ → W) → Counts K made → (kind : LoadKind) → SameFigures K made (in_force s c kind) (in_force (side_for_side s) (mirrored_card c) kind)
    sides_figured K made counts kind f f' T T' o o' t u =
        figures_sides K made counts (in_force s c kind) lawful f f' T T' o o' (subst (λ n. kerbs_fit n c.kerbs ≡ true) same fit) t
        (subst (λ n. Figured K made (record { surface = side_for_side s; kerbs = mirror n c.kerbs; factors = c.factors; kind = kind }) f' T' o') same u)

    sides_level : (call : Call) → Answered s c call a → Answered (side_for_side s) (mirrored_card c) (mirrored_call c call) b → figure_in a ≡ figure_in b
    sides_level (SetKerbs k) t u = level a b Done Done t u refl
    sides_level (SetFactors x) t u = level a b Done Done t u refl
    sides_level (Reduce x) t u = level a b _ _ t u refl
    sides_level (Posted n m) t u = level a b Done Done t u refl
    sides_level (Withdraw n m) t u = level a b Done Done t u refl
    sides_level (Figure k l) t u = taken_level effect_kind (λ e j. e) s (side_for_side s) c (mirrored_card c) k a b (sides_figured effect_kind (λ e j. e) effect_counts k) t u
    sides_level (Drawing k l) t u = taken_level kerbed_kind kerbed s (side_for_side s) c (mirrored_card c) k a b (sides_figured kerbed_kind kerbed kerbed_counts k) t u

    sides_alike : (call : Call) → Told s c call a → Told (side_for_side s) (mirrored_card c) (mirrored_call c call) b → Alike a b
    sides_alike call t u = alike_by a b (cause c call) t.judged (u.judged ∙ cause_mirrored c call) (λ h. sides_level call (t.taken h) (u.taken (cause_mirrored c call ∙ h)))

  ends_level : (call : Call) → Answered s c call a → Answered (end_for_end s) c call b → figure_in a ≡ figure_in b
  ends_level (SetKerbs k) t u = level a b Done Done t u refl
  ends_level (SetFactors x) t u = level a b Done Done t u refl
  ends_level (Reduce x) t u = level a b _ _ t u refl
  ends_level (Posted n m) t u = level a b Done Done t u refl
  ends_level (Withdraw n m) t u = level a b Done Done t u refl
  ends_level (Figure k l) t u = taken_level effect_kind (λ e j. e) s (end_for_end s) c c k a b (figures_ends effect_kind (λ e j. e) effect_counts (in_force s c k) lawful) t u
  ends_level (Drawing k l) t u = taken_level kerbed_kind kerbed s (end_for_end s) c c k a b (figures_ends kerbed_kind kerbed kerbed_counts (in_force s c k) lawful) t u

  ends_alike : (call : Call) → Told s c call a → Told (end_for_end s) c call b → Alike a b
  ends_alike call t u = alike_by a b (cause c call) t.judged u.judged (λ h. ends_level call (t.taken h) (u.taken h))

-- ---- the whole run
pub told_at : (s : Shape) (number : ℕ) (kerbs : Carriageway) (calls : List Call) (answers : List Answer) → Met s number kerbs calls answers
    → (i : ℕ) (call : Call) (a : Answer) → slice_get calls i ≡ Some call → slice_get answers i ≡ Some a → Told s (card_after (opening number s.slices kerbs) (take i calls)) call a
told_at s number kerbs calls answers met i call a e h =
    let m = met.each i call e in
    subst (λ x. Told s (card_after (opening number s.slices kerbs) (take i calls)) call x) (some_is m.0 a (sym m.1 ∙ h)) m.2

pub whole_from_met : MetServes
whole_from_met s lawful number kerbs calls answers met =
    let c₀ = opening number s.slices kerbs in
    let fit : Fit c₀ = unless_none (kerbs_fit s.slices kerbs) Kerbs met.opened in
    record {
      met = met;
      sides = λ others met' i a b l is_a is_b.
          let k = nth_some calls i l in
          let c = card_after c₀ (take i calls) in
          let t = told_at s number kerbs calls answers met i k.0 a k.1 is_a in
          let u = told_at (side_for_side s) number (mirror s.slices kerbs) (mirrored c₀ calls) others met' i (mirrored_call c k.0) b (nth_mirrored c₀ calls i k.0 k.1) is_b in
          sides_alike s lawful c a b (slices_after c₀ (take i calls)) (fits_after c₀ fit (take i calls)) k.0 t
          (subst (λ x. Told (side_for_side s) x (mirrored_call c k.0) b) (cards_mirrored c₀ calls i) u);
      ends = λ others met' i a b l is_a is_b.
          let k = nth_some calls i l in
          ends_alike s lawful (card_after c₀ (take i calls)) a b k.0 (told_at s number kerbs calls answers met i k.0 a k.1 is_a)
          (told_at (end_for_end s) number kerbs calls others met' i k.0 b k.1 is_b);
    }
