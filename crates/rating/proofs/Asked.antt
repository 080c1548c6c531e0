-- What a figure or a drawing tells, asked by the lengths of the lists to lend.
use Rattle.std.proofs.Common.{◌≡◌, ℕ, ◌+◌, ◌-◌, ◌*◌, ◌≤◌, min, Bool, true, false, leb, List, ◌++◌, length, get_or, take, replicate, Some, None, Option, sym, refl, ap, ◌∙◌, subst, ⊎_elim, arith}
use Rattle.std.proofs.lemmas.List.{take-append-le, get_or_append_left, get_or-append_right, get_or-replicate, get_or_past, length-replicate}
use Rattle.std.proofs.lemmas.Bool.{cases_lt}
use Rattle.std.proofs.lemmas.Bool.Decides.{nat_tests}
use Rattle.surface.specs.Shape.{Shape}
use Rattle.model.specs.Lanes.{breadth}
use Rattle.model.specs.Tandems.{no_tandem}
use Rattle.model.specs.declared.lanes.Carriageway.{Carriageway}
use Rattle.model.specs.declared.tandems.Tandem.{Tandem}
use Rattle.model.specs.declared.weights.LoadKind.{LoadKind}
use Rattle.placing.specs.Kind.{Kind}
use Rattle.card.specs.Bounds.{kerbs_fit}
use Rattle.card.specs.Steps.{cause, duty_open, long_enough, unless}
use Rattle.card.specs.declared.answers.Answer.{Answer}
use Rattle.card.specs.declared.answers.Answer.TheVariants.{Refused, Rated}
use Rattle.card.specs.declared.answers.Rating.{Rating}
use Rattle.card.specs.declared.calls.Call.{Call}
use Rattle.card.specs.declared.calls.Call.TheVariants.{Figure, Drawing}
use Rattle.card.specs.declared.calls.Lengths.{Lengths}
use Rattle.card.specs.declared.entries.Card.{Card}
use Rattle.card.specs.declared.fault.JobFault.{JobFault}
use Rattle.card.specs.declared.fault.JobFault.TheVariants.{Kerbs, Short}
use Rattle.statement.specs.Figures.{tandem_in, Figured, Lists, Listed}
use Rattle.statement.specs.Runs.{Told, Taken, in_force}
use Rattle.rating.specs.Asked.{Asked}
use Rattle.rating.specs.Reach.{reached}

pub fit_bounds : (n : ℕ) (k : Carriageway) → kerbs_fit n k ≡ true → (30 ≤ k.width) × (k.width ≤ 150) × (k.first + breadth k ≤ n)
fit_bounds n k e = (grind (arith, nat_tests), grind (arith, nat_tests), grind (arith, nat_tests))

-- ---- refusals

pub unless_none : (b : Bool) (e : JobFault) (o : Option JobFault) → None ≡ unless b e o → (b ≡ true) × (None ≡ o)
unless_none true e o h = (refl, h)
unless_none false e o h = let z : ◌≡◌ {A = ℕ} 0 1 = cc in absurd (omega arith)

not_true : true ≡ false → ⊥
not_true h = let z : ◌≡◌ {A = ℕ} 0 1 = cc in omega arith

-- over kerbs that fit, only the call's own cause is left
pub own_cause : (b : Bool) (x o : Option JobFault) → b ≡ true → x ≡ unless b Kerbs o → x ≡ o
own_cause true x o e h = h
own_cause false x o e h = absurd (not_true (sym e))

leb_cut : (w x y n : ℕ) → w ≤ n → y ≡ min x n → leb w y ≡ leb w x
leb_cut w x y n h e = grind (arith, nat_tests)

-- lists cut to what these kerbs need are long enough exactly where the whole ones are
pub cut_enough : (n : ℕ) (k : Carriageway) (l : Lengths) → kerbs_fit n k ≡ true → long_enough k (reached k l) ≡ long_enough k l
cut_enough n k l fit =
    let w : k.width ≤ 150 = (fit_bounds n k fit).1 in
    let far : breadth k ≤ min (breadth k) 300 = omega arith in
    let p = leb_cut (breadth k) l.areas (reached k l).areas 300 (omega arith) refl in
    let q = leb_cut (breadth k) l.tandems (reached k l).tandems (min (breadth k) 300) far refl in
    let r = leb_cut (24 * (breadth k + 1)) l.bests (reached k l).bests 7224 (omega arith) refl in
    let s = leb_cut (breadth k) l.owners (reached k l).owners (min (breadth k) 300) far refl in
    cc

abbrev four : ℕ → ℕ → ℕ → ℕ → Lengths
four a t b o = record { areas = a; tandems = t; bests = b; owners = o }

-- four lengths that are those of l
pub same_lengths : (l : Lengths) {a t b o : ℕ} → a ≡ l.areas → t ≡ l.tandems → b ≡ l.bests → o ≡ l.owners → four a t b o ≡ l
same_lengths l {a} {t} {b} {o} ea et eb eo =
    ap (λ (x : ℕ). four x t b o) ea ∙ ap (λ (x : ℕ). four l.areas x b o) et ∙ ap (λ (x : ℕ). four l.areas l.tandems x o) eb ∙ ap (λ (x : ℕ). four l.areas l.tandems l.bests x) eo

pub enough_owners : (k : Carriageway) (l : Lengths) → long_enough k l ≡ true → breadth k ≤ l.owners
enough_owners k l e = grind (arith, nat_tests)

-- ---- the layout that is kept

-- past the tandems that were lent there is none
tandem_past : (xs : List Tandem) (n x : ℕ) → tandem_in (xs ++ replicate n no_tandem) x ≡ tandem_in xs x
tandem_past xs n x = ⊎_elim
    (λ h. get_or_append_left xs (replicate n no_tandem) no_tandem x h)
    (λ h. get_or-append_right xs (replicate n no_tandem) (length xs) x no_tandem refl h ∙ beyond (x - length xs) ∙ sym (get_or_past xs x no_tandem h))
    (cases_lt x (length xs))
  where
    beyond : (y : ℕ) → get_or (replicate n no_tandem) y no_tandem ≡ no_tandem
    beyond y = ⊎_elim (λ h. get_or-replicate n y no_tandem no_tandem h) (λ h. get_or_past (replicate n no_tandem) y no_tandem (omega (arith, length-replicate n no_tandem))) (cases_lt y n)

pub same_tandems : (xs : List Tandem) (n : ℕ) → tandem_in xs ≡ tandem_in (xs ++ replicate n no_tandem)
same_tandems xs n = λ i. λ x. sym (tandem_past xs n x) i

module _ {W : Type 0} (K : Kind W) (made : ℕ → ℕ → W) (s : Shape) (c : Card) (kind : LoadKind) where
  pub taken : (r : Rating) (before after : Lists W) (others : List ℕ) (n : ℕ) → r.duty ≡ duty_open c → Listed K made (in_force s c kind) r.figure before after → breadth c.kerbs ≤ length after.owners
      → Taken K made s c kind (Rated r (record { owners = after.owners ++ others; tandems = after.tandems ++ replicate n no_tandem }))
  taken r before after others n duty l long = record {
    rating = r;
    layout = record { owners = after.owners ++ others; tandems = after.tandems ++ replicate n no_tandem };
    answer = refl;
    duty = duty;
    figured =
        subst (λ (t : ℕ → Tandem). Figured K made (in_force s c kind) r.figure t (take (breadth c.kerbs) (after.owners ++ others))) (same_tandems after.tandems n)
        (subst (Figured K made (in_force s c kind) r.figure (tandem_in after.tandems)) (sym (take-append-le (breadth c.kerbs) after.owners others long)) l.owners);
  }

-- ---- what is told

-- two lengths that the card judges alike
pub asked_cut : {W : Type 0} (K : Kind W) (made : ℕ → ℕ → W) (s : Shape) (c : Card) (k : LoadKind) (l m : Lengths) (a : Answer) → long_enough c.kerbs m ≡ long_enough c.kerbs l → Asked K made s c k m a → Asked K made s c k l a
asked_cut K made s c k l m a e t =
    let same : unless (long_enough c.kerbs m) Short None ≡ unless (long_enough c.kerbs l) Short None = ap (λ (b : Bool). unless b Short None) e in
    record { judged = t.judged ∙ same; taken = λ h. t.taken (same ∙ h) }

-- the answer that keeps copies of owners and tandems
pub kept_layout : (r : Rating) (owners owners' : List ℕ) (tandems tandems' : List Tandem) (none : Tandem)
    → owners' ≡ owners ++ replicate (300 - length owners) 0 → tandems' ≡ tandems ++ replicate (300 - length tandems) none → none ≡ no_tandem
    → ◌≡◌ {A = Answer} (Rated r (record { owners = owners'; tandems = tandems' })) (Rated r (record { owners = owners ++ replicate (300 - length owners) 0; tandems = tandems ++ replicate (300 - length tandems) no_tandem }))
kept_layout r owners owners' tandems tandems' none a b n =
    ap (λ (xs : List ℕ). Rated r (record { owners = xs; tandems = tandems' })) a
    ∙ ap (λ (ts : List Tandem). Rated r (record { owners = owners ++ replicate (300 - length owners) 0; tandems = ts })) (b ∙ ap (λ (t : Tandem). tandems ++ replicate (300 - length tandems) t) n)
