-- A table has one verdict.
use Rattle.std.proofs.Common.{◌≡◌, ℕ, ◌<◌, List, length, ℤ, sym, refl, ap, ◌∙◌, subst, ⊎_elim, arith}
use Rattle.std.proofs.lemmas.Bool.{cases_lt}
use Rattle.measured.specs.Judged.{laid_paths}
use Rattle.measured.specs.declared.row.Row.{Row}
use Rattle.surface.specs.declared.fault.SurfaceFault.{SurfaceFault}
use Rattle.readings.specs.Runs.{slices_of, Reached, RowStops, RunTaken, RunRefused}
use Rattle.readings.specs.Runs as runs
use Rattle.verdict.specs.Verdicts.{OneVerdict}
use Rattle.verdict.proofs.Chains.{front}
use Rattle.verdict.proofs.Records.{header_one, header_never, row_one}
use Rattle.verdict.proofs.Stages.{same_header, same_stage, not_past, longer, same_end}

module _ (input : List ℕ) (old : List Row) where
  some : {rows : List Row} {ps : List ℤ} {k : ℕ} {rest : List ℕ} → Reached input old rows ps k rest → 0 < length input
  some a = (front a.header a.rows_read a.reads).some

  no_header : {rows : List Row} {ps : List ℤ} {k : ℕ} {rest : List ℕ} (f : SurfaceFault) → Reached input old rows ps k rest → runs.HeaderStops input f → ⊥
  no_header f a s = let l = front a.header a.rows_read a.reads in header_never input a.header l.after _ f l.line a.headed s

  rows_one : (f g : SurfaceFault) (rows rows' : List Row) (ps qs : List ℤ) (k k' : ℕ) (rest rest' : List ℕ) → Reached input old rows ps k rest → Reached input old rows' qs k' rest'
      → RowStops (length ps) k rows rest f → RowStops (length qs) k' rows' rest' g → f ≡ g
  rows_one f g rows rows' ps qs k k' rest rest' a b s t =
      ⊎_elim (λ less. absurd (not_past f a b s less))
      (λ ge. ⊎_elim (λ more. absurd (not_past g b a t more))
      (λ le.
      let e : k ≡ k' = omega arith in
      let h = same_header a b in
      let st = same_stage a b e in
      let t1 = subst (λ (l : List ℤ). RowStops (length l) k' rows' rest' g) (sym h.1) t in
      let t2 = subst (λ (i : ℕ). RowStops (length ps) i rows' rest' g) (sym e) t1 in
      let t3 = subst (λ (l : List Row). RowStops (length ps) k l rest' g) (sym st.0) t2 in
      row_one (length ps) k rows rest f g s (subst (λ (x : List ℕ). RowStops (length ps) k rows x g) (sym st.1) t3))
      (cases_lt k' k))
      (cases_lt k k')

  of_fault : (f g : SurfaceFault) → RunRefused input old f → RunRefused input old g → f ≡ g
  of_fault f g (runs.long h) (runs.long h') = refl
  of_fault f g (runs.long h) (runs.empty e) = absurd (omega (arith, ap length e))
  of_fault f g (runs.long h) (runs.header _ s n t) = absurd (omega arith)
  of_fault f g (runs.long h) (runs.row rows ps k rest _ s a n t) = absurd (omega arith)
  of_fault f g (runs.empty e) (runs.long h) = absurd (omega (arith, ap length e))
  of_fault f g (runs.empty e) (runs.empty e') = refl
  of_fault f g (runs.empty e) (runs.header _ s n t) = absurd (omega (arith, ap length e))
  of_fault f g (runs.empty e) (runs.row rows ps k rest _ s a n t) = absurd (omega (arith, ap length e, some a))
  of_fault f g (runs.header _ s n t) (runs.long h) = absurd (omega arith)
  of_fault f g (runs.header _ s n t) (runs.empty e) = absurd (omega (arith, ap length e))
  of_fault f g (runs.header _ s n t) (runs.header _ s' n' t') = header_one input f g t t'
  of_fault f g (runs.header _ s n t) (runs.row rows ps k rest _ s' a n' t') = absurd (no_header f a t)
  of_fault f g (runs.row rows ps k rest _ s a n t) (runs.long h) = absurd (omega arith)
  of_fault f g (runs.row rows ps k rest _ s a n t) (runs.empty e) = absurd (omega (arith, ap length e, some a))
  of_fault f g (runs.row rows ps k rest _ s a n t) (runs.header _ s' n' t') = absurd (no_header g a t')
  of_fault f g (runs.row rows ps k rest _ s a n t) (runs.row rows' qs k' rest' _ s' b n' t') = rows_one f g rows rows' ps qs k k' rest rest' a b t t'

  never_both : (rows : List Row) (n m : ℕ) (ps : List ℕ) (k : ℕ) (f : SurfaceFault) → RunTaken input old rows n m ps k → RunRefused input old f → ⊥
  never_both rows n m ps k f t (runs.long h) = omega (arith, t.short)
  never_both rows n m ps k f t (runs.empty e) = omega (arith, ap length e, some t.reached)
  never_both rows n m ps k f t (runs.header _ s i q) = no_header f t.reached q
  never_both rows n m ps k f t (runs.row rows' qs k' rest _ s a i q) =
      ⊎_elim (λ less. not_past f a t.reached q less)
      (λ ge. ⊎_elim
      (λ more. longer a t.reached more)
      (λ le. let st = same_stage a t.reached (omega arith) in omega (arith, ap length st.1))
      (cases_lt k k'))
      (cases_lt k' k)

  of_rows : (rows rows' : List Row) (n n' m m' : ℕ) (ps ps' : List ℕ) (k k' : ℕ) → RunTaken input old rows n m ps k → RunTaken input old rows' n' m' ps' k' → (rows ≡ rows') × (n ≡ n') × (m ≡ m') × (ps ≡ ps') × (k ≡ k')
  of_rows rows rows' n n' m m' ps ps' k k' t u =
      let a = t.reached in
      let b = u.reached in
      let e : k ≡ k' = same_end a b in
      let h = (same_header a b).1 in
      let s = same_stage a b e in
      let x = t.begun in
      let y = u.begun in
      let slices = x.slices_are ∙ ap slices_of h ∙ sym y.slices_are in
      (s.0, cc, x.count_is ∙ ap length h ∙ sym y.count_is, x.paths_are ∙ ap laid_paths h ∙ sym y.paths_are, e)

pub one_verdict : OneVerdict
one_verdict = record { of_fault = of_fault; never_both = never_both; of_rows = of_rows }
