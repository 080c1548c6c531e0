-- A run's table half read: what is known before each row, and what a row adds.
use Rattle.std.proofs.Common.{◌≡◌, ℕ, ◌+◌, ◌<◌, ◌≤◌, List, [], ◌∷◌, ◌++◌, length, drop, set, ℤ, pos, Ok, sym, refl, ap, ◌∙◌, subst, arith}
use Rattle.std.proofs.lemmas.List.{drop_all, length-drop, length_push}
use Rattle.measured.specs.Judged.{Begun, row_of, station_judged}
use Rattle.measured.specs.declared.measured.Draft.{Draft}
use Rattle.measured.specs.declared.row.Row.{Row}
use Rattle.surface.specs.declared.fault.SurfaceFault.{SurfaceFault}
use Rattle.surface.specs.declared.fault.SurfaceFault.TheVariants.{Text}
use Rattle.table.specs.Lines.{LineRead, LineRefused}
use Rattle.table.specs.Tables as tables
use Rattle.table.specs.declared.fault.TextFault.{TextFault}
use Rattle.table.specs.declared.fault.TextFault.TheVariants.{Malformed, TooLong}
use Rattle.table.specs.declared.line.LineEnd.{LineEnd}
use Rattle.readings.specs.Runs.{Opened, Reached, RowTaken, RowStops, FilledBy, HeaderRefused, RunTaken, RunRefused, slices_of}
use Rattle.readings.specs.Runs as runs
use Rattle.readings.proofs.Headers.{header_few}
use Rattle.table.specs.Numbers.{Writes}
use Rattle.records.proofs.Progress.{written_length}
use Rattle.readings.proofs.Stations.{passes}

pub record Underway (input : List ℕ) (old rows : List Row) (fields at rec : ℕ) (d : Draft) : Type 0 where
  pub numbers : List ℤ
  pub reached : Reached input old rows numbers d.filled (drop at input)
  pub begun : Begun (slices_of numbers) numbers d.layout.slices d.layout.count d.layout.paths 0
  pub fields_are : fields ≡ length numbers + 1
  pub few : fields ≤ 9
  pub place : rec ≡ d.filled + 2
  pub within : at ≤ length input

-- a field of the header does not stand
pub header_text : (input : List ℕ) (old : List Row) (e : TextFault) → length input ≤ 65536 → 0 < length input → LineRefused input 0 1 e → RunRefused input old (Text e)
header_text input old (Malformed r f) short some l = subst (λ (n : ℕ). RunRefused input old (Text (Malformed n f))) (sym l.0) (runs.header _ short some (runs.text f l.1))
header_text input old TooLong short some l = absurd (omega arith)

module _ (input : List ℕ) (old : List Row) (short : length input ≤ 65536) (some : 0 < length input) {e : LineEnd} (l : LineRead input 0 e) where
  pub header_said : (f : SurfaceFault) → HeaderRefused l.cells f → RunRefused input old f
  header_said f h = runs.header f short some (runs.said l.cells _ f l.line h)

  -- before the first row
  pub begins : (d : Draft) → Opened l.cells d.layout.slices d.layout.count d.layout.paths d.filled → Underway input old old e.fields e.next 2 d
  begins d o =
      let ps = o.numbers in
      let n = written_length Writes o.headed.others ps o.headed.paths in
      let m = ap length o.headed.splits in
      let none = o.begun.none_filled in
      record {
        numbers = ps;
        reached = record {
          header = l.cells;
          rows_read = [];
          reads = tables.next l.cells (drop e.end input) (drop e.next input) tables.none some l.line (passes l.leaves);
          headed = o.headed;
          filled = runs.none;
          counted = none;
        };
        begun = record { slices_are = o.begun.slices_are; count_is = o.begun.count_is; paths_are = o.begun.paths_are; none_filled = refl };
        fields_are = omega (arith, l.count);
        few = omega (arith, l.count, header_few ps o.headed.lawful);
        place = omega arith;
        within = l.next_within (omega arith);
      }

module _ (input : List ℕ) (old rows : List Row) (fields at rec : ℕ) (d : Draft) (u : Underway input old rows fields at rec d) where
  count : d.layout.count ≡ length u.numbers
  count = u.begun.count_is

  left : at < length input → 0 < length (drop at input)
  left h = simp length-drop (omega arith)

  -- after one row more
  pub goes_on : (new : List Row) (next : ℕ) (d' : Draft) → at < length input → RowTaken d.layout.count d.filled rows input at next new → d'.layout ≡ d.layout → d'.filled ≡ d.filled + 1
      → Underway input old new fields next (rec + 1) d'
  goes_on new next d' low t same more =
      let r = u.reached in
      let m : d.layout.count ≡ length u.numbers = count in
      let k : d.filled ≡ length r.rows_read = r.counted in
      let lawful = subst (λ (c : ℕ). station_judged c d.filled rows t.place t.ordinates ≡ Ok tt) m t.lawful in
      let lawful' = subst (λ (i : ℕ). station_judged (length u.numbers) i rows t.place t.ordinates ≡ Ok tt) k lawful in
      let is : new ≡ set rows (length r.rows_read) (row_of (length u.numbers) t.place t.ordinates) =
      t.filled ∙ ap (λ (c : ℕ). set rows d.filled (row_of c t.place t.ordinates)) m ∙ ap (λ (i : ℕ). set rows i (row_of (length u.numbers) t.place t.ordinates)) k in
      record {
        numbers = u.numbers;
        reached = record {
          header = r.header;
          rows_read = r.rows_read ++ (t.cells ∷ []);
          reads = tables.next t.cells t.after (drop next input) r.reads (left low) t.line t.passes;
          headed = r.headed;
          filled = subst (FilledBy (length u.numbers) old (r.rows_read ++ (t.cells ∷ []))) (sym is) (runs.next t.cells t.place t.ordinates r.filled t.written (t.count ∙ m) lawful');
          counted = omega (arith, length_push r.rows_read t.cells);
        };
        begun = record {
          slices_are = ap (λ x. pos x.slices) same ∙ u.begun.slices_are;
          count_is = ap (λ x. x.count) same ∙ u.begun.count_is;
          paths_are = ap (λ x. x.paths) same ∙ u.begun.paths_are;
          none_filled = refl;
        };
        fields_are = u.fields_are;
        few = u.few;
        place = omega (arith, u.place);
        within = t.within;
      }

  -- the row is refused
  pub stops : (f : SurfaceFault) → length input ≤ 65536 → at < length input → RowStops d.layout.count d.filled rows (drop at input) f → RunRefused input old f
  stops f short low s = runs.row rows u.numbers d.filled (drop at input) f short u.reached (left low) (subst (λ (m : ℕ). RowStops m d.filled rows (drop at input) f) count s)

  -- no row is left
  pub ends : length input ≤ 65536 → length input ≤ at → RunTaken input old rows d.layout.slices d.layout.count d.layout.paths d.filled
  ends short h = record {
    numbers = u.numbers;
    short = short;
    reached = subst (Reached input old rows u.numbers d.filled) (drop_all at input h) u.reached;
    begun = u.begun;
  }
