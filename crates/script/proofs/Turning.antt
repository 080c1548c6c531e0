-- The words after `turned`, one at a time.
use Rattle.std.proofs.Common.{◌≡◌, ℕ, ◌+◌, ◌<◌, ◌≤◌, List, [], ◌∷◌, length, get_or, take, drop, Some, None, sym, ap, ◌∙◌, subst, arith}
use Rattle.std.proofs.lemmas.List.{take_more, drop_more, take_all, length-drop}
use Rattle.table.specs.Cells.{Cell, plain, content}
use Rattle.table.specs.Lines.{Line}
use Rattle.table.specs.declared.fault.TextFault.TheVariants.{Malformed}
use Rattle.script.specs.Lines.{Split}
use Rattle.script.specs.Turns.{unturned, follows, turned_on, NextTurn, TurnedBy, Misturned}
use Rattle.script.specs.Turns as turns
use Rattle.script.specs.declared.turns.Turns.{Turns}

-- i words are read, and the record of those that are left stands at the front of the text
pub record Turning (ds : List Cell) (ys text : List ℕ) (i : ℕ) (t : Turns) : Type 0 where
  pub named : TurnedBy (take i ds) t
  pub line : i < length ds → Line (drop i ds) text ys

pub turning_none : (ds : List Cell) (ys text : List ℕ) (t : Turns) → t ≡ unturned → (0 < length ds → Line ds text ys) → Turning ds ys text 0 t
turning_none ds ys text t e l = record { named = subst (TurnedBy []) (sym e) turns.none; line = l }

module _ (ds : List Cell) (ys text : List ℕ) (i : ℕ) (t : Turns) (g : Turning ds ys text i t) (h : i < length ds) where
  module _ {c : Cell} (rest : List ℕ) (s : Split (drop i ds) c rest ys) where
    both : get_or ds i (plain []) ∷ drop (i + 1) ds ≡ c ∷ s.others
    both = sym (drop_more ds i (plain []) h) ∙ s.splits

    this : get_or ds i (plain []) ≡ c
    this = let e = both in cc

    rest_is : drop (i + 1) ds ≡ s.others
    rest_is = let e = both in cc

    pub turning_more : (u : Turns) → NextTurn (content c) t (Some u) → Turning ds ys rest (i + 1) u
    turning_more u (w, (says, (may, is))) = record {
      named =
          subst (TurnedBy (take (i + 1) ds)) (sym is)
          (subst (λ (l : List Cell). TurnedBy l (turned_on t w)) (sym (take_more ds i (plain []) h)) (turns.more (get_or ds i (plain [])) w g.named (ap content this ∙ says) may));
      line = λ more.
          let k : 0 < length s.others = omega (arith, ap length rest_is, length-drop (i + 1) ds) in
          subst (λ (l : List Cell). Line l rest ys) (sym rest_is) (s.line k);
    }

    pub turning_stops : (rec fld : ℕ) → fld ≡ 2 + i → NextTurn (content c) t None → Misturned rec ds (Malformed rec fld)
    turning_stops rec fld at none = record {
      index = i;
      before = t;
      named = g.named;
      within = h;
      none = λ w e. none w (sym (ap content this) ∙ e);
      place = ap (Malformed rec) at;
    }

pub turning_done : (ds : List Cell) (ys text : List ℕ) (i : ℕ) (t : Turns) → length ds ≤ i → Turning ds ys text i t → TurnedBy ds t
turning_done ds ys text i t h g = subst (λ (l : List Cell). TurnedBy l t) (take_all i ds h) g.named
