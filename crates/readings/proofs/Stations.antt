-- A row, from its fields to the station that is taken or the fault that it is refused for.
use Rattle.std.proofs.Common.{◌≡◌, ℕ, ◌+◌, ◌<◌, ◌≤◌, List, [], ◌∷◌, length, get_or, drop, set, ℤ, pos, Ok, Err, sym, ap, ◌∙◌, subst, arith}
use Rattle.std.proofs.lemmas.List.{length-drop}
use Rattle.measured.specs.Judged.{row_of, station_judged}
use Rattle.measured.specs.declared.row.Row.{Row}
use Rattle.surface.specs.declared.fault.SurfaceFault.{SurfaceFault}
use Rattle.surface.specs.declared.fault.SurfaceFault.TheVariants.{Text}
use Rattle.table.specs.Cells.{Cell}
use Rattle.table.specs.Lines.{Line, Leaves, LineRead, LineRefused, Broken}
use Rattle.table.specs.Lines as lines
use Rattle.table.specs.Tables.{Passes, at_end, at_line}
use Rattle.table.specs.declared.fault.TextFault.{TextFault}
use Rattle.table.specs.declared.fault.TextFault.TheVariants.{Malformed, TooLong}
use Rattle.table.specs.declared.line.LineEnd.{LineEnd}
use Rattle.table.proofs.SecondPass.{read_advances}
use Rattle.table.specs.Numbers.{Writes}
use Rattle.records.specs.Numbers.{Written, Missed}
use Rattle.records.proofs.Progress.{written_length}
use Rattle.readings.specs.Runs.{RowStops, RowTaken}
use Rattle.readings.specs.Runs as runs

-- where a record is left, the next begins
pub passes : {input : List ℕ} {e n : ℕ} → Leaves input e n → Passes (drop e input) (drop n input)
passes {input} (lines.at_end d is) = at_end d (ap (λ (k : ℕ). drop k input) is ∙ d)
passes (lines.at_line d is) = at_line d

-- the numbers of a row: its place, then its ordinates
row_written : (cs : List Cell) (into : List ℤ) → 0 < length cs → Written Writes cs into → Written Writes cs (get_or into 0 (pos 0) ∷ drop 1 into)
row_written cs [] some w = let n = written_length Writes cs [] w in absurd (omega arith)
row_written cs (v ∷ vs) some w = w

module _ (m k rec : ℕ) (rows : List Row) (input : List ℕ) (at : ℕ) (place : rec ≡ k + 2) where
  -- said at the record's place
  here : (f : ℕ) → RowStops m k rows (drop at input) (Text (Malformed (k + 2) f)) → RowStops m k rows (drop at input) (Text (Malformed rec f))
  here f = subst (λ (n : ℕ). RowStops m k rows (drop at input) (Text (Malformed n f))) (sym place)

  -- a field of the row does not stand
  pub stops_text : (e : TextFault) → length input ≤ 65536 → LineRefused input at rec e → RowStops m k rows (drop at input) (Text e)
  stops_text (Malformed r f) short l = subst (λ (n : ℕ). RowStops m k rows (drop at input) (Text (Malformed n f))) (sym l.0) (here f (runs.text f l.1))
  stops_text TooLong short l = absurd (omega arith)

  module _ {e : LineEnd} (l : LineRead input at e) where
    said : (f : SurfaceFault) → runs.RowRefused m k rows l.cells f → RowStops m k rows (drop at input) f
    said f = runs.said l.cells (drop e.end input) f l.line

    pub stops_fields : (e.fields ≡ m + 1 → ⊥) → RowStops m k rows (drop at input) (Text (Malformed rec 0))
    stops_fields h = here 0 (said _ (runs.fields (λ is. h (l.count ∙ is))))

    pub stops_number : (t : TextFault) → length l.cells ≡ m + 1 → Missed Writes l.cells rec 1 t → RowStops m k rows (drop at input) (Text t)
    stops_number t n s =
        let swap : 1 + s.index ≡ s.index + 1 = omega arith in
        let is : t ≡ Malformed rec (s.index + 1) = s.place ∙ ap (Malformed rec) swap in
        subst (λ (u : TextFault). RowStops m k rows (drop at input) (Text u)) (sym is) (here (s.index + 1) (said _ (runs.number s.index n s.unwritten)))

    module _ (into : List ℤ) (w : Written Writes l.cells into) (n : length l.cells ≡ m + 1) where
      ordinates_count : length (drop 1 into) ≡ m
      ordinates_count = let long = written_length Writes l.cells into w in simp length-drop (omega arith)

      numbers : Written Writes l.cells (get_or into 0 (pos 0) ∷ drop 1 into)
      numbers = row_written l.cells into (omega arith) w

      pub stops_station : (f : SurfaceFault) → station_judged m k rows (get_or into 0 (pos 0)) (drop 1 into) ≡ Err f → RowStops m k rows (drop at input) f
      stops_station f j = said f (runs.station _ _ f ordinates_count numbers j)

      pub row_taken : (new : List Row) → at < length input → station_judged m k rows (get_or into 0 (pos 0)) (drop 1 into) ≡ Ok tt
          → new ≡ set rows k (row_of m (get_or into 0 (pos 0)) (drop 1 into)) → RowTaken m k rows input at e.next new
      row_taken new low j is = record {
        cells = l.cells;
        after = drop e.end input;
        place = get_or into 0 (pos 0);
        ordinates = drop 1 into;
        line = l.line;
        passes = passes l.leaves;
        written = numbers;
        count = ordinates_count;
        lawful = j;
        filled = is;
        onward = read_advances l low;
        within = l.next_within (omega arith);
      }
