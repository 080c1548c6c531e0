-- What follows the surface, record by record.
use Rattle.std.proofs.Common.{◌≡◌, ℕ, ◌+◌, ◌-◌, ◌<◌, ◌≤◌, Bool, false, List, length, drop, ℤ, Decides, sym, ap, subst, arith}
use Rattle.std.proofs.lemmas.List.{drop_all, length-drop}
use Rattle.surface.specs.declared.fault.SurfaceFault.TheVariants.{Text}
use Rattle.table.specs.Cells.{Cell, content}
use Rattle.table.specs.Lines.{Line, LineRead, LineRefused}
use Rattle.table.specs.declared.fault.TextFault.{TextFault}
use Rattle.table.specs.declared.fault.TextFault.TheVariants.{Malformed, TooLong}
use Rattle.table.specs.declared.line.LineEnd.{LineEnd}
use Rattle.readings.proofs.Headers.{line_few}
use Rattle.readings.proofs.Stations.{passes}
use Rattle.script.specs.Edges.{EdgeBegins, EdgeHeaded, EdgeUnheaded, EdgeRefused}
use Rattle.script.specs.Edges as edges
use Rattle.script.specs.Lines.{Split}
use Rattle.script.specs.Tails.{FirstRecord, TurnsSaid, TurnedFirst, TurnedStops, OpenStops}
use Rattle.script.specs.Tails as tails
use Rattle.script.specs.Turns.{unturned, TurnedBy, Misturned}
use Rattle.script.specs.Words.{turned_word}
use Rattle.script.specs.declared.turns.Turns.{Turns}
use Rattle.script.proofs.Splits.{split_says}

left : (input : List ℕ) (at : ℕ) → at < length input → 0 < length (drop at input)
left input at h = simp length-drop (omega arith)

-- a record has at most so many fields
pub fields_few : {input : List ℕ} {at : ℕ} {e : LineEnd} → length input ≤ 65536 → LineRead input at e → e.fields ≤ 65537
fields_few {input} {at} short l = omega (arith, line_few l.line, l.count, length-drop at input)

pub first_record : {input : List ℕ} {at : ℕ} {e : LineEnd} → at < length input → (l : LineRead input at e) → FirstRecord (drop at input) l.cells (drop e.next input)
first_record {input} {at} {e} low l = record { some = left input at low; after = drop e.end input; line = l.line; passes = passes l.leaves }

-- ---- turns

module _ (input : List ℕ) (at rec : ℕ) where
  pub turned_none : (t : Turns) → t ≡ unturned → length input ≤ at → TurnedFirst (drop at input) rec t (drop at input) rec
  turned_none t is h = subst (λ (u : Turns). TurnedFirst (drop at input) rec u (drop at input) rec) (sym is) (tails.no_record (drop_all at input h))

  pub turned_broken : (e : TextFault) → length input ≤ 65536 → at < length input → LineRefused input at rec e → TurnedStops rec (drop at input) e
  turned_broken (Malformed r f) short low l = subst (λ (n : ℕ). TurnedStops rec (drop at input) (Malformed n f)) (sym l.0) (tails.broken f (left input at low) l.1)
  turned_broken TooLong short low l = absurd (omega arith)

  module _ {e : LineEnd} (l : LineRead input at e) {c : Cell} {rest : List ℕ} (s : Split l.cells c rest (drop e.end input)) where
    pub words_count : length s.others ≡ e.fields - 1
    words_count = omega (arith, ap length s.splits, l.count)

    pub turned_not : (t : Turns) → t ≡ unturned → {b : Bool} → b ≡ false → Decides b (content c ≡ turned_word) → TurnedFirst (drop at input) rec t (drop at input) rec
    turned_not t is {b} un d =
        subst (λ (u : Turns). TurnedFirst (drop at input) rec u (drop at input) rec) (sym is)
        (tails.no_turns l.cells (drop e.end input) l.line (λ says. let y = (split_says s d).1 says in let z : ◌≡◌ {A = ℕ} 0 1 = cc in omega arith))

    pub turned_stops : (t : TextFault) → content c ≡ turned_word → Misturned rec s.others t → TurnedStops rec (drop at input) t
    turned_stops t w m = tails.turn c s.others (drop e.end input) t (subst (λ (x : List Cell). Line x (drop at input) (drop e.end input)) s.splits l.line) w m

    pub turned_so : (t : Turns) → at < length input → content c ≡ turned_word → TurnedBy s.others t → TurnedFirst (drop at input) rec t (drop e.next input) (rec + 1)
    turned_so t low w by = tails.turns l.cells (drop e.next input) t (first_record low l) (subst (λ (x : List Cell). TurnsSaid x t) (sym s.splits) (w, by))

  -- ---- opening

  pub open_broken : (e : TextFault) → length input ≤ 65536 → at < length input → LineRefused input at rec e → OpenStops rec (drop at input) e
  open_broken (Malformed r f) short low l = subst (λ (n : ℕ). OpenStops rec (drop at input) (Malformed n f)) (sym l.0) (tails.broken f (left input at low) l.1)
  open_broken TooLong short low l = absurd (omega arith)

-- ---- an edge surface

module _ (part : List ℕ) where
  pub edge_broken : (e : TextFault) → length part ≤ 65536 → LineRefused part 0 1 e → EdgeRefused part (Text e)
  edge_broken (Malformed r f) short l = subst (λ (n : ℕ). EdgeRefused part (Text (Malformed n f))) (sym l.0) (edges.broken f l.1)
  edge_broken TooLong short l = absurd (omega arith)

  pub edge_begins : {e : LineEnd} (l : LineRead part 0 e) (n f g : ℤ) → EdgeHeaded l.cells n f g → EdgeBegins part n f g (drop e.next part)
  edge_begins {e} l n f g h = record { cells = l.cells; after = drop e.end part; line = l.line; passes = passes l.leaves; headed = h }
