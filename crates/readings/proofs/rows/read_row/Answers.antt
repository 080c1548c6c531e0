use Rattle.std.proofs.Common.{◌≡◌, length, drop, sym, refl, ◌∙◌, subst, arith}
use Rattle.std.proofs.lemmas.Result.{err_from_is_err_and}
use Rattle.surface.specs.declared.fault.SurfaceFault.TheVariants.{Text}
use Rattle.table.specs.declared.fault.TextFault.{TextFault}
use Rattle.readings.specs.Runs.{RowStops}
use Rattle.readings.proofs.Stations.{stops_text, stops_fields, stops_number, stops_station, row_taken}
use Rattle.records.proofs.Progress.{taken_whole}
use Rattle.readings.proofs.rows.read_row.Goals as goal

pub returns-in_err-line : goal.returns-in_err-line
returns-in_err-line c =
    let p = err_from_is_err_and c.from_residual.result c.from_residual.ensures.1 in
    rw (p.1, p.2) (record {
      row = stops_text _ _ c.args.here.record _ c.args.here.input.now c.args.here.at c.requires.place c.in_err-line.field-0.0 c.requires.text.1 c.in_err-line.ensures;
      layout = refl;
      filled = refl;
    })

pub returns-in_err-check_fields : goal.returns-in_err-check_fields
returns-in_err-check_fields c =
    let p = err_from_is_err_and c.from_residual-in_err-check_fields.result c.from_residual-in_err-check_fields.ensures.1 in
    let d = c.args.draft.now in
    let e = c.in_err-check_fields.ensures in
    rw (p.1, p.2) (record {
      row = subst (λ (t : TextFault). RowStops d.layout.count d.filled c.args.rows.now (drop c.args.here.at c.args.here.input.now) (Text t)) (sym e.1)
          (stops_fields _ _ c.args.here.record _ c.args.here.input.now c.args.here.at c.requires.place c.in_ok-line.ensures (λ h. e.0 (h ∙ sym c.requires.fields.0)));
      layout = refl;
      filled = refl;
    })

pub returns-in_err-numbers : goal.returns-in_err-numbers
returns-in_err-numbers c =
    let p = err_from_is_err_and c.from_residual-in_err-numbers.result c.from_residual-in_err-numbers.ensures.1 in
    let l = c.in_ok-line.ensures in
    let n : length l.cells ≡ c.args.fields = sym l.count ∙ c.in_ok-check_fields.ensures in
    rw (p.1, p.2) (record {
      row = stops_number _ _ c.args.here.record _ c.args.here.input.now c.args.here.at c.requires.place l c.in_err-numbers.field-0.0 (n ∙ c.requires.fields.0) (c.in_err-numbers.ensures.numbers l.cells (drop c.in_ok-line.line.end c.args.here.input.now) l.line n);
      layout = refl;
      filled = refl;
    })

pub returns-in_err-take_station : goal.returns-in_err-take_station
returns-in_err-take_station c =
    let p = err_from_is_err_and c.from_residual-in_err-take_station.result c.from_residual-in_err-take_station.ensures.1 in
    let d = c.args.draft.now in
    let rows = c.args.rows.now in
    let into = c.in_ok-numbers.numbers.items in
    let l = c.in_ok-line.ensures in
    let n : length l.cells ≡ c.args.fields = sym l.count ∙ c.in_ok-check_fields.ensures in
    let w = taken_whole (c.in_ok-numbers.ensures.numbers l.cells (drop c.in_ok-line.line.end c.args.here.input.now) l.line n) (omega arith) in
    let e = rw c.as_slice.ensures.value at c.in_err-take_station.ensures in
    let j = sym e.verdict in
    rw (p.1, p.2) (record {
      row = stops_station d.layout.count d.filled c.args.here.record rows c.args.here.input.now c.args.here.at c.requires.place l into w (n ∙ c.requires.fields.0) _ j;
      layout = e.layout;
      filled = e.filled;
    })

pub returns : goal.returns
returns c =
    let d = c.args.draft.now in
    let rows = c.args.rows.now in
    let into = c.in_ok-numbers.numbers.items in
    let l = c.in_ok-line.ensures in
    let n : length l.cells ≡ c.args.fields = sym l.count ∙ c.in_ok-check_fields.ensures in
    let w = taken_whole (c.in_ok-numbers.ensures.numbers l.cells (drop c.in_ok-line.line.end c.args.here.input.now) l.line n) (omega arith) in
    let e = rw c.as_slice.ensures.value at c.in_ok-take_station.ensures in
    let j = sym e.verdict in
    record {
      row = row_taken d.layout.count d.filled c.args.here.record rows c.args.here.input.now c.args.here.at c.requires.place l into w (n ∙ c.requires.fields.0) _ c.requires.text.0 j e.rows;
      layout = e.layout;
      filled = e.filled;
    }
