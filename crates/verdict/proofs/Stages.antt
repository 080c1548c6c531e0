-- Two readings of one table: they agree as far as both go, and neither goes past a record that the other refuses.
use Rattle.std.proofs.Common.{◌≡◌, ℕ, ◌<◌, List, [], ◌∷◌, length, ℤ, Ok, sym, refl, ap, subst, ⊎_elim, arith}
use Rattle.std.proofs.lemmas.List.{length_push, same_from_push}
use Rattle.std.proofs.lemmas.Bool.{cases_lt}
use Rattle.measured.specs.Judged.{station_judged}
use Rattle.measured.specs.declared.row.Row.{Row}
use Rattle.surface.specs.declared.fault.SurfaceFault.{SurfaceFault}
use Rattle.table.specs.Cells.{Cell}
use Rattle.table.specs.Lines.{Line}
use Rattle.table.specs.Tables.{ReadUpTo}
use Rattle.table.proofs.Chains.{line_unique}
use Rattle.table.specs.Numbers.{Writes}
use Rattle.records.specs.Numbers.{Written}
use Rattle.readings.specs.Runs.{Headed, FilledBy, Reached, RowStops, HeaderStops}
use Rattle.readings.specs.Runs as runs
use Rattle.verdict.proofs.Chains.{same_read, last_read, front}
use Rattle.records.proofs.Unique.{whole_one, written_unique}
use Rattle.verdict.proofs.Records.{headed_unique, row_never}

-- the same records fill the same rows
same_filled : {m : ℕ} {old rows rows' : List Row} {rs ss : List (List Cell)} → FilledBy m old rs rows → FilledBy m old ss rows' → rs ≡ ss → rows ≡ rows'
same_filled runs.none runs.none e = refl
same_filled runs.none (runs.next {rs = ss} cs z vs q w c j) e = absurd (omega (arith, ap length e, length_push ss cs))
same_filled (runs.next {rs} cs z vs q w c j) runs.none e = absurd (omega (arith, ap length e, length_push rs cs))
same_filled {m} (runs.next {rs} {rows = r} cs z vs q w c j) (runs.next {rs = ss} {rows = r'} ds y us q' w' c' j') e =
    let same = same_from_push rs ss cs ds e in
    let before : r ≡ r' = same_filled q q' same.0 in
    let lists = same.0 in
    let numbers = written_unique Writes whole_one cs (z ∷ vs) (y ∷ us) w (subst (λ (d : List Cell). Written Writes d (y ∷ us)) (sym same.1) w') in
    let place : z ≡ y = cc in
    let others : vs ≡ us = cc in
    cc

-- where a reading that goes on stood after k rows, and the row that it took then
record Earlier (m : ℕ) (input : List ℕ) (old : List Row) (h : List Cell) (k : ℕ) : Type 0 where
  taken : List (List Cell)
  rows : List Row
  rest : List ℕ
  many : length taken ≡ k
  reads : ReadUpTo (h ∷ taken) input rest
  filled : FilledBy m old taken rows
  cells : List Cell
  after : List ℕ
  place : ℤ
  ordinates : List ℤ
  some : 0 < length rest
  line : Line cells rest after
  written : Written Writes cells (place ∷ ordinates)
  count : length ordinates ≡ m
  lawful : station_judged m k rows place ordinates ≡ Ok tt

earlier : {m : ℕ} {input : List ℕ} {old : List Row} (h : List Cell) (k : ℕ) {rs : List (List Cell)} {rows : List Row} → FilledBy m old rs rows → {qs : List (List Cell)} {rest : List ℕ} → ReadUpTo qs input rest → qs ≡ h ∷ rs → k < length rs → Earlier m input old h k
earlier h k runs.none r e low = absurd (omega arith)
earlier {m} {old = old} h k (runs.next {rs} {rows = before} cs z vs q w c j) r e low =
    let l = last_read (h ∷ rs) cs r e in
    ⊎_elim
    (λ less. earlier h k q l.before refl less)
    (λ ge.
    let same : length rs ≡ k = omega (arith, length_push rs cs) in
    record {
      taken = rs;
      rows = before;
      rest = l.left;
      many = same;
      reads = l.before;
      filled = q;
      cells = cs;
      after = l.after;
      place = z;
      ordinates = vs;
      some = l.some;
      line = l.line;
      written = w;
      count = c;
      lawful = subst (λ (i : ℕ). station_judged m i before z vs ≡ Ok tt) same j;
    })
    (cases_lt k (length rs))

module _ {input : List ℕ} {old : List Row} where
  -- both readings have the same header, and so the same paths
  pub same_header : {rows rows' : List Row} {ps qs : List ℤ} {k k' : ℕ} {rest rest' : List ℕ} (a : Reached input old rows ps k rest) (b : Reached input old rows' qs k' rest') → (a.header ≡ b.header) × (ps ≡ qs)
  same_header {ps = ps} {qs = qs} a b =
      let f = front a.header a.rows_read a.reads in
      let g = front b.header b.rows_read b.reads in
      let h = (line_unique a.header b.header f.line g.line).0 in
      (h, headed_unique a.header ps qs a.headed (subst (λ (c : List Cell). Headed c qs) (sym h) b.headed))

  -- after as many rows the two readings hold the same
  pub same_stage : {rows rows' : List Row} {ps qs : List ℤ} {k k' : ℕ} {rest rest' : List ℕ} → Reached input old rows ps k rest → Reached input old rows' qs k' rest' → k ≡ k' → (rows ≡ rows') × (rest ≡ rest')
  same_stage {rows' = rows'} {ps = ps} {qs = qs} a b e =
      let h = same_header a b in
      let r = same_read a.reads b.reads (omega (arith, a.counted, b.counted)) in
      let lists = r.0 in
      let same : a.rows_read ≡ b.rows_read = cc in
      (same_filled a.filled (subst (λ (l : List ℤ). FilledBy (length l) old b.rows_read rows') (sym h.1) b.filled) same, r.1)

  -- a row that one reading refuses is not taken by another
  pub not_past : {rows rows' : List Row} {ps qs : List ℤ} {k k' : ℕ} {rest rest' : List ℕ} (f : SurfaceFault) → Reached input old rows ps k rest → Reached input old rows' qs k' rest' → RowStops (length ps) k rows rest f → k < k' → ⊥
  not_past {rows} {rows'} {ps} {qs} {k} f a b s low =
      let h = same_header a b in
      let b' = subst (λ (l : List ℤ). FilledBy (length l) old b.rows_read rows') (sym h.1) b.filled in
      let e = earlier b.header k b' b.reads refl (omega (arith, b.counted)) in
      let r = same_read a.reads e.reads (omega (arith, a.counted, e.many)) in
      let lists = r.0 in
      let same : a.rows_read ≡ e.taken = cc in
      let held : rows ≡ e.rows = same_filled a.filled e.filled same in
      row_never (length ps) k rows _ e.cells e.after e.place e.ordinates f
      (subst (λ (t : List ℕ). Line e.cells t e.after) (sym r.1) e.line) e.written e.count
      (subst (λ (l : List Row). station_judged (length ps) k l e.place e.ordinates ≡ Ok tt) (sym held) e.lawful) s

  -- where no text is left, no further row is taken
  pub longer : {rows rows' : List Row} {ps qs : List ℤ} {k k' : ℕ} {rest : List ℕ} → Reached input old rows ps k rest → Reached input old rows' qs k' [] → k' < k → ⊥
  longer {k' = k'} a b low =
      let e = earlier a.header k' a.filled a.reads refl (omega (arith, a.counted)) in
      let r = same_read e.reads b.reads (omega (arith, b.counted, e.many)) in
      omega (arith, ap length r.1, e.some)

  -- two readings that leave no text have as many rows
  pub same_end : {rows rows' : List Row} {ps qs : List ℤ} {k k' : ℕ} → Reached input old rows ps k [] → Reached input old rows' qs k' [] → k ≡ k'
  same_end {k = k} {k' = k'} a b =
      ⊎_elim (λ less. absurd (longer b a less)) (λ ge. ⊎_elim (λ more. absurd (longer a b more)) (λ le. omega arith) (cases_lt k' k)) (cases_lt k k')
