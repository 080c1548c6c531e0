-- What follows the surface in a script is determined, and so is the first record of it that is refused.
use Rattle.std.proofs.Common.{◌≡◌, ℕ, ◌+◌, List, [], ◌∷◌, length, sym, refl, ap, ◌∙◌, subst, arith}
use Rattle.surface.specs.declared.fault.SurfaceFault.{SurfaceFault}
use Rattle.surface.specs.declared.fault.SurfaceFault.TheVariants.{Text}
use Rattle.table.specs.Cells.{Cell, plain, content}
use Rattle.table.specs.Lines.{Line}
use Rattle.table.specs.Tables.{Passes}
use Rattle.table.specs.declared.fault.TextFault.{TextFault}
use Rattle.table.specs.declared.fault.TextFault.TheVariants.{Malformed}
use Rattle.table.proofs.Chains.{line_unique, line_not_broken, broken_unique}
use Rattle.model.specs.declared.lanes.Carriageway.{Carriageway}
use Rattle.card.specs.declared.calls.Call.{Call}
use Rattle.script.specs.Calls.{Opens, Unopened, Said, Unsaid}
use Rattle.script.specs.Entries.{Entered, Stopped}
use Rattle.script.specs.Lines.{Says}
use Rattle.script.specs.Tails.{FirstRecord, TurnsSaid, TurnedFirst, TurnedStops, OpenedNext, OpenStops, TailSaid, TailRefused}
use Rattle.script.specs.Tails as tails
use Rattle.script.specs.Turns.{Misturned}
use Rattle.script.specs.Words.{turned_word}
use Rattle.script.specs.declared.turns.Turns.{Turns}
use Rattle.verdict.proofs.Chains.{passes_unique}
use Rattle.script_verdict.proofs.Calls.{call_one}
use Rattle.script_verdict.proofs.Entries.{entered_unique, entered_not, stopped_unique}
use Rattle.script_verdict.proofs.Opening.{opens_unique, unopened_unique, opens_not}
use Rattle.script_verdict.proofs.Readings.{line_empty}
use Rattle.script_verdict.proofs.Turning.{turned_unique, turned_not, misturned_unique}

record_unique : {text rest rest' : List ℕ} {cs ds : List Cell} → FirstRecord text cs rest → FirstRecord text ds rest' → (cs ≡ ds) × (rest ≡ rest')
record_unique {rest = rest} {rest' = rest'} {cs = cs} {ds = ds} a b =
    let l = line_unique cs ds a.line b.line in
    (l.0, passes_unique a.after rest rest' a.passes (subst (λ (x : List ℕ). Passes x rest') (sym l.1) b.passes))

-- ---- turns

says_turned : (cs : List Cell) (t : Turns) → TurnsSaid cs t → Says cs turned_word
says_turned [] t a = absurd a
says_turned (c ∷ ds) t a = a.0

turns_unique : (cs : List Cell) (t u : Turns) → TurnsSaid cs t → TurnsSaid cs u → t ≡ u
turns_unique [] t u a b = absurd a
turns_unique (c ∷ ds) t u a b = turned_unique a.1 b.1

-- a record that says no turns is not one that says some
silent : {text ys zs : List ℕ} (cs ds : List Cell) (t : Turns) → Line cs text ys → (Says cs turned_word → ⊥) → Line ds text zs → TurnsSaid ds t → ⊥
silent cs ds t l none k a = none (subst (λ (x : List Cell). Says x turned_word) (line_unique ds cs k l).0 (says_turned ds t a))

module _ {text : List ℕ} {rec : ℕ} where
  pub first_unique : {t u : Turns} {rest rest' : List ℕ} {n m : ℕ} → TurnedFirst text rec t rest n → TurnedFirst text rec u rest' m → (t ≡ u) × (rest ≡ rest') × (n ≡ m)
  first_unique (tails.no_record e) (tails.no_record d) = (refl, refl, refl)
  first_unique (tails.no_record e) (tails.no_turns cs ys l none) = (refl, refl, refl)
  first_unique (tails.no_record e) (tails.turns cs rest t a s) = absurd (omega (arith, ap length e, a.some))
  first_unique (tails.no_turns cs ys l none) (tails.no_record e) = (refl, refl, refl)
  first_unique (tails.no_turns cs ys l none) (tails.no_turns ds zs k nor) = (refl, refl, refl)
  first_unique (tails.no_turns cs ys l none) (tails.turns ds rest t a s) = absurd (silent cs ds t l none a.line s)
  first_unique (tails.turns cs rest t a s) (tails.no_record e) = absurd (omega (arith, ap length e, a.some))
  first_unique (tails.turns cs rest t a s) (tails.no_turns ds ys l none) = absurd (silent ds cs t l none a.line s)
  first_unique (tails.turns cs rest t a s) (tails.turns ds rest' u b r) =
      let same = record_unique a b in
      (turns_unique cs t u s (subst (λ (x : List Cell). TurnsSaid x u) (sym same.0) r), same.1, refl)

  turned_fault : {d e : TextFault} → TurnedStops rec text d → TurnedStops rec text e → d ≡ e
  turned_fault (tails.broken f some b) (tails.broken g some' c) = ap (Malformed rec) (broken_unique b c)
  turned_fault (tails.broken f some b) (tails.turn c ds ys e l w m) = absurd (line_not_broken (c ∷ ds) l b)
  turned_fault (tails.turn c ds ys d l w m) (tails.broken g some b) = absurd (line_not_broken (c ∷ ds) l b)
  turned_fault (tails.turn c ds ys d l w m) (tails.turn c' ds' zs e k x n) =
      let same = (line_unique (c' ∷ ds') (c ∷ ds) k l).0 in
      let others : ds' ≡ ds = cc in
      misturned_unique m (subst (λ (y : List Cell). Misturned rec y e) others n)

  turned_never : {t : Turns} {rest : List ℕ} {n : ℕ} {e : TextFault} → TurnedFirst text rec t rest n → TurnedStops rec text e → ⊥
  turned_never (tails.no_record e) (tails.broken f some b) = omega (arith, ap length e)
  turned_never (tails.no_record e) (tails.turn c ds ys d l w m) =
      let same = line_empty (c ∷ ds) (subst (λ (x : List ℕ). Line (c ∷ ds) x ys) e l) in
      let blank : c ≡ plain [] = cc in
      omega (arith, ap length (sym w ∙ ap content blank))
  turned_never (tails.no_turns cs ys l none) (tails.broken f some b) = line_not_broken cs l b
  turned_never (tails.no_turns cs ys l none) (tails.turn c ds zs d k w m) = none (subst (λ (x : List Cell). Says x turned_word) (line_unique (c ∷ ds) cs k l).0 w)
  turned_never (tails.turns cs rest t a s) (tails.broken f some b) = line_not_broken cs a.line b
  turned_never (tails.turns cs rest t a s) (tails.turn c ds zs d k w m) = turned_not (subst (λ (x : List Cell). TurnsSaid x t) (line_unique cs (c ∷ ds) a.line k).0 s).1 m

-- ---- opening

module _ {text : List ℕ} where
  opened_unique : {n m : ℕ} {k l : Carriageway} {rest rest' : List ℕ} → OpenedNext text n k rest → OpenedNext text m l rest' → (n ≡ m) × (k ≡ l) × (rest ≡ rest')
  opened_unique {m = m} {l = l} a b =
      let same = record_unique a.first b.first in
      let says = opens_unique a.opens (subst (λ (x : List Cell). Opens x m l) (sym same.0) b.opens) in
      (says.0, says.1, same.1)

  open_fault : {rec : ℕ} {d e : TextFault} → OpenStops rec text d → OpenStops rec text e → d ≡ e
  open_fault (tails.missing h) (tails.missing g) = refl
  open_fault (tails.missing h) (tails.broken f some b) = absurd (omega (arith, ap length h))
  open_fault (tails.missing h) (tails.unopened cs ys e some l u) = absurd (omega (arith, ap length h))
  open_fault (tails.broken f some b) (tails.missing h) = absurd (omega (arith, ap length h))
  open_fault {rec} (tails.broken f some b) (tails.broken g some' c) = ap (Malformed rec) (broken_unique b c)
  open_fault (tails.broken f some b) (tails.unopened cs ys e some' l u) = absurd (line_not_broken cs l b)
  open_fault (tails.unopened cs ys d some l u) (tails.missing h) = absurd (omega (arith, ap length h))
  open_fault (tails.unopened cs ys d some l u) (tails.broken g some' b) = absurd (line_not_broken cs l b)
  open_fault {rec} (tails.unopened cs ys d some l u) (tails.unopened ds zs e some' k v) = unopened_unique u (subst (λ (x : List Cell). Unopened rec x e) (line_unique ds cs k l).0 v)

  open_never : {rec n : ℕ} {k : Carriageway} {rest : List ℕ} {e : TextFault} → OpenedNext text n k rest → OpenStops rec text e → ⊥
  open_never a (tails.missing h) = omega (arith, ap length h, a.first.some)
  open_never a (tails.broken f some b) = line_not_broken a.cells a.first.line b
  open_never {rec} a (tails.unopened cs ys e some l u) = opens_not a.opens (subst (λ (x : List Cell). Unopened rec x e) (line_unique cs a.cells l a.first.line).0 u)

-- ---- the whole

module _ {text : List ℕ} {rec : ℕ} where
  pub tail_unique : {t u : Turns} {n m : ℕ} {k l : Carriageway} {cs ds : List Call} → TailSaid text rec t n k cs → TailSaid text rec u m l ds → (t ≡ u) × (n ≡ m) × (k ≡ l) × (cs ≡ ds)
  tail_unique {m = m} {l = l} {ds = ds} a b =
      let turns = first_unique a.turned b.turned in
      let opens = opened_unique a.opened (subst (λ (x : List ℕ). OpenedNext x m l b.rest) (sym turns.1) b.opened) in
      (turns.0, opens.0, opens.1, entered_unique Said Unsaid call_one a.said (subst (λ (x : List ℕ). Entered Said x ds) (sym opens.2) b.said))

  -- two openings that follow the same turns
  next_opened : {t u : Turns} {left left' rest rest' : List ℕ} {i j n m : ℕ} {k l : Carriageway} → TurnedFirst text rec t left i → TurnedFirst text rec u left' j → OpenedNext left n k rest → OpenedNext left' m l rest' → (rest ≡ rest') × (i ≡ j)
  next_opened {rest' = rest'} {m = m} {l = l} a b o p =
      let same = first_unique a b in
      ((opened_unique o (subst (λ (x : List ℕ). OpenedNext x m l rest') (sym same.1) p)).2, same.2)

  next_never : {t u : Turns} {left left' rest : List ℕ} {i j n : ℕ} {k : Carriageway} {e : TextFault} → TurnedFirst text rec t left i → TurnedFirst text rec u left' j → OpenedNext left n k rest → OpenStops j left' e → ⊥
  next_never {rest = rest} {j = j} {e = e} a b o s = open_never o (subst (λ (x : List ℕ). OpenStops j x e) (sym (first_unique a b).1) s)

  pub tail_never : {t : Turns} {n : ℕ} {k : Carriageway} {cs : List Call} {f : SurfaceFault} → TailSaid text rec t n k cs → TailRefused rec text f → ⊥
  tail_never a (tails.turns e s) = turned_never a.turned s
  tail_never a (tails.opening u rest next e b s) = next_never a.turned b a.opened s
  tail_never a (tails.call u left next m l rest f b p s) =
      let same = next_opened b a.turned p a.opened in
      entered_not Said Unsaid call_one a.said (subst (λ (x : List ℕ). Stopped Said Unsaid (next + 1) x f) same.0 s)

  pub tail_fault : {f g : SurfaceFault} → TailRefused rec text f → TailRefused rec text g → f ≡ g
  tail_fault (tails.turns d r) (tails.turns e s) = ap Text (turned_fault r s)
  tail_fault (tails.turns d r) (tails.opening u rest next e b s) = absurd (turned_never b r)
  tail_fault (tails.turns d r) (tails.call u left next m l rest g b p s) = absurd (turned_never b r)
  tail_fault (tails.opening t rest next d a r) (tails.turns e s) = absurd (turned_never a s)
  tail_fault (tails.opening t rest next d a r) (tails.opening u rest' next' e b s) =
      let same = first_unique b a in
      let s1 = subst (λ (x : List ℕ). OpenStops next' x e) same.1 s in
      ap Text (open_fault r (subst (λ (i : ℕ). OpenStops i rest e) same.2 s1))
  tail_fault (tails.opening t rest next d a r) (tails.call u left next' m l rest' g b p s) = absurd (next_never b a p r)
  tail_fault (tails.call t left next n k rest f a o r) (tails.turns e s) = absurd (turned_never a s)
  tail_fault (tails.call t left next n k rest f a o r) (tails.opening u rest' next' e b s) = absurd (next_never a b o s)
  tail_fault (tails.call t left next n k rest f a o r) (tails.call u left' next' m l rest' g b p s) =
      let same = next_opened b a p o in
      let s1 = subst (λ (x : List ℕ). Stopped Said Unsaid (next' + 1) x g) same.0 s in
      stopped_unique Said Unsaid call_one r (subst (λ (i : ℕ). Stopped Said Unsaid (i + 1) rest g) same.1 s1)
