-- Records that each say one entry, one after another.
use Rattle.std.proofs.Common.{◌≡◌, ℕ, ◌+◌, ◌<◌, ◌≤◌, List, [], ◌∷◌, ◌++◌, length, drop, sym, ◌∙◌, subst, arith}
use Rattle.std.proofs.lemmas.List.{drop_all, length-drop, length_push}
use Rattle.surface.specs.declared.fault.SurfaceFault.TheVariants.{Text}
use Rattle.table.specs.Cells.{Cell}
use Rattle.table.specs.Lines.{LineRead, LineRefused}
use Rattle.table.specs.Tables as tables
use Rattle.table.specs.declared.fault.TextFault.{TextFault}
use Rattle.table.specs.declared.fault.TextFault.TheVariants.{Malformed, TooLong}
use Rattle.table.specs.declared.line.LineEnd.{LineEnd}
use Rattle.table.proofs.SecondPass.{read_advances}
use Rattle.readings.proofs.Stations.{passes}
use Rattle.script.specs.Entries.{Entries, Partly, Entered, Stopped}
use Rattle.script.specs.Entries as entries

-- the records from byte `at` to byte `next` are read, and the one there has this number
pub record Reading {E : Type 0} (S : List Cell → E → Type 0) (input : List ℕ) (at rec : ℕ) (es : List E) (next number : ℕ) : Type 0 where
  pub partly : Partly S (drop at input) es (drop next input)
  pub counted : number ≡ rec + length partly.records
  pub onward : at + length partly.records ≤ next
  pub within : next ≤ length input

module _ {E : Type 0} (S : List Cell → E → Type 0) (U : ℕ → List Cell → TextFault → Type 0) (input : List ℕ) (at rec : ℕ) where
  pub reading_none : at ≤ length input → Reading S input at rec [] at rec
  reading_none h = record { partly = record { records = []; reads = tables.none; entries = entries.none }; counted = omega arith; onward = omega arith; within = h }

  module _ (es : List E) (next number : ℕ) (g : Reading S input at rec es next number) where
    left : next < length input → 0 < length (drop next input)
    left h = simp length-drop (omega arith)

    pub reading_more : {e : LineEnd} (x : E) → next < length input → (l : LineRead input next e) → S l.cells x → Reading S input at rec (es ++ (x ∷ [])) e.next (number + 1)
    reading_more {e} x low l said =
        let on = read_advances l low in
        let long = length_push g.partly.records l.cells in
        record {
          partly = record {
            records = g.partly.records ++ (l.cells ∷ []);
            reads = tables.next l.cells (drop e.end input) (drop e.next input) g.partly.reads (left low) l.line (passes l.leaves);
            entries = entries.more l.cells x g.partly.entries said;
          };
          counted = omega (arith, g.counted);
          onward = omega (arith, g.onward);
          within = l.next_within (omega arith);
        }

    pub reading_broken : (e : TextFault) → length input ≤ 65536 → next < length input → LineRefused input next number e → Stopped S U rec (drop at input) (Text e)
    reading_broken (Malformed r f) short low l =
        let is : r ≡ rec + length g.partly.records = l.0 ∙ g.counted in
        subst (λ (n : ℕ). Stopped S U rec (drop at input) (Text (Malformed n f))) (sym is) (entries.broken es (drop next input) f g.partly (left low) l.1)
    reading_broken TooLong short low l = absurd (omega arith)

    pub reading_said_none : {e : LineEnd} (t : TextFault) → next < length input → (l : LineRead input next e) → U number l.cells t → Stopped S U rec (drop at input) (Text t)
    reading_said_none {e} t low l u =
        entries.said_none es (drop next input) l.cells (drop e.end input) t g.partly (left low) l.line (subst (λ (n : ℕ). U n l.cells t) g.counted u)

    pub reading_done : length input ≤ next → Entered S (drop at input) es
    reading_done h = subst (Partly S (drop at input) es) (drop_all next input h) g.partly
