-- The turns that words name are determined, and so is the first word that may not stand where it does.
use Rattle.std.proofs.Common.{◌≡◌, ℕ, ◌+◌, ◌<◌, true, List, [], ◌∷◌, length, get_or, take, sym, refl, ap, ◌∙◌, subst, ⊎_elim, arith}
use Rattle.std.proofs.lemmas.List.{length_push, length-take-le, get_or_append_left, get_or_push, get_or-take, take_all, take-append-le, take-take, same_from_push}
use Rattle.std.proofs.lemmas.Bool.{cases_lt}
use Rattle.table.specs.Cells.{Cell, plain, content}
use Rattle.table.specs.declared.fault.TextFault.{TextFault}
use Rattle.table.specs.declared.fault.TextFault.TheVariants.{Malformed}
use Rattle.script.specs.Turns.{follows, turned_on, TurnedBy, Misturned}
use Rattle.script.specs.Turns as turns
use Rattle.script.specs.Words.{turn_word}
use Rattle.script.specs.declared.turns.Turns.{Turns}
use Rattle.script.specs.declared.words.Turn.{Turn}
use Rattle.script_verdict.proofs.Readings.{level}
use Rattle.script_verdict.proofs.Words.{turn_unique}

same_turned : {ds es : List Cell} {t u : Turns} → TurnedBy ds t → TurnedBy es u → ds ≡ es → t ≡ u
same_turned turns.none turns.none e = refl
same_turned turns.none (turns.more {ds = es} d w r s m) e = absurd (omega (arith, ap length e, length_push es d))
same_turned (turns.more {ds} d w r s m) turns.none e = absurd (omega (arith, ap length e, length_push ds d))
same_turned (turns.more {ds} {t} d w r s m) (turns.more {ds = es} {t = u} c v q x n) e =
    let same = same_from_push ds es d c e in
    let before = same_turned r q same.0 in
    let word = turn_unique (content d) w v s (ap content same.1 ∙ x) in
    ap (λ (y : Turns). turned_on y w) before ∙ ap (turned_on u) word

pub turned_unique : {ds : List Cell} {t u : Turns} → TurnedBy ds t → TurnedBy ds u → t ≡ u
turned_unique a b = same_turned a b refl

-- word k, and the turns that those before it name
record TurnAt (ds : List Cell) (k : ℕ) : Type 0 where
  before : Turns
  named : TurnedBy (take k ds) before
  word : Turn
  says : content (get_or ds k (plain [])) ≡ turn_word word
  may : follows before word ≡ true

-- the same word at the same place of another list
moved : {ds es : List Cell} (k : ℕ) → take k ds ≡ take k es → get_or ds k (plain []) ≡ get_or es k (plain []) → TurnAt ds k → TurnAt es k
moved k front this a = record {
  before = a.before;
  named = subst (λ (l : List Cell). TurnedBy l a.before) front a.named;
  word = a.word;
  says = ap content (sym this) ∙ a.says;
  may = a.may;
}

turn_at : {ds : List Cell} {t : Turns} → TurnedBy ds t → (k : ℕ) → k < length ds → TurnAt ds k
turn_at turns.none k h = absurd (omega arith)
turn_at (turns.more {ds} {t} d w r s m) k h =
    ⊎_elim
    (λ less. moved k (sym (take-append-le k ds (d ∷ []) (omega arith))) (sym (get_or_append_left ds (d ∷ []) (plain []) k less)) (turn_at r k less))
    (λ ge.
    let long : length ds ≡ k = omega (arith, length_push ds d) in
    record {
      before = t;
      named = subst (λ (l : List Cell). TurnedBy l t) (sym (take-append-le k ds (d ∷ []) (omega arith) ∙ take_all k ds ge)) r;
      word = w;
      says = ap content (get_or_push ds d (plain []) k long) ∙ s;
      may = m;
    })
    (cases_lt k (length ds))

no_turn : {rec : ℕ} {ds : List Cell} {e : TextFault} (m : Misturned rec ds e) → TurnAt ds m.index → ⊥
no_turn m a = m.none a.word a.says (subst (λ (t : Turns). follows t a.word ≡ true) (turned_unique a.named m.named) a.may)

pub turned_not : {rec : ℕ} {ds : List Cell} {t : Turns} {e : TextFault} → TurnedBy ds t → Misturned rec ds e → ⊥
turned_not a m = no_turn m (turn_at a m.index m.within)

-- a word that may not stand is not passed by
earlier : {rec : ℕ} {ds : List Cell} {d e : TextFault} (m : Misturned rec ds d) (n : Misturned rec ds e) → m.index < n.index → ⊥
earlier {ds = ds} m n h =
    let long = length-take-le n.index ds (omega (arith, n.within)) in
    no_turn m (moved m.index (take-take m.index n.index ds (omega arith)) (get_or-take n.index ds m.index (plain []) h) (turn_at n.named m.index (omega arith)))

pub misturned_unique : {rec : ℕ} {ds : List Cell} {d e : TextFault} → Misturned rec ds d → Misturned rec ds e → d ≡ e
misturned_unique {rec} m n = m.place ∙ ap (λ (i : ℕ). Malformed rec (2 + i)) (level m.index n.index (earlier m n) (earlier n m)) ∙ sym n.place
