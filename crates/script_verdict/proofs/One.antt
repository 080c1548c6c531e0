-- A script has one verdict.
use Rattle.std.proofs.Common.{◌≡◌, ℕ, List, ℤ, pos, refl, ap, ◌∙◌, arith}
use Rattle.surface.specs.Shape.{Shape}
use Rattle.surface.specs.declared.fault.SurfaceFault.{SurfaceFault}
use Rattle.measured.specs.Judged.{seal_judged}
use Rattle.measured.specs.Rows.{rows_shape}
use Rattle.measured.specs.declared.row.Row.{Row}
use Rattle.edge.specs.Edges.{edge_shape}
use Rattle.edge.specs.Judged.{edge_judged}
use Rattle.edge.specs.declared.station.Station.{Station}
use Rattle.model.specs.declared.lanes.Carriageway.{Carriageway}
use Rattle.card.specs.declared.calls.Call.{Call}
use Rattle.script.specs.declared.turns.Turns.{Turns}
use Rattle.scripted.specs.Scripts.{ScriptSays, ScriptRefused}
use Rattle.scripted.specs.Scripts as scripts
use Rattle.verdict.proofs.Records.{clash, same_fault}
use Rattle.script_verdict.specs.Verdicts.{OneScript}
use Rattle.script_verdict.proofs.Surfaces.{measured_unique, measured_never, measured_fault, lined_unique, lined_never, lined_fault}

-- ---- what depends on the parts alone

same_seal : {rows rows' : List Row} {m m' k k' : ℕ} → rows ≡ rows' → m ≡ m' → k ≡ k' → seal_judged m rows k ≡ seal_judged m' rows' k'
same_seal {rows} {rows'} {m} {m'} {k} {k'} a b c = ap (λ (i : ℕ). seal_judged i rows k) b ∙ ap (λ (r : List Row). seal_judged m' r k) a ∙ ap (seal_judged m' rows') c

same_rows : {rows rows' : List Row} {n n' m m' k k' : ℕ} {ps ps' : List ℕ} → rows ≡ rows' → n ≡ n' → m ≡ m' → ps ≡ ps' → k ≡ k' → rows_shape n m ps k rows ≡ rows_shape n' m' ps' k' rows'
same_rows {rows} {rows'} {n} {n'} {m} {m'} {k} {k'} {ps} {ps'} a b c d e =
    ap (λ (i : ℕ). rows_shape i m ps k rows) b ∙ ap (λ (i : ℕ). rows_shape n' i ps k rows) c ∙ ap (λ (l : List ℕ). rows_shape n' m' l k rows) d
    ∙ ap (λ (i : ℕ). rows_shape n' m' ps' i rows) e ∙ ap (rows_shape n' m' ps' k') a

same_making : {n n' f f' g g' : ℤ} {ss ss' : List Station} → n ≡ n' → f ≡ f' → g ≡ g' → ss ≡ ss' → edge_judged n f g ss ≡ edge_judged n' f' g' ss'
same_making {n} {n'} {f} {f'} {g} {g'} {ss} {ss'} a b c d =
    ap (λ (z : ℤ). edge_judged z f g ss) a ∙ ap (λ (z : ℤ). edge_judged n' z g ss) b ∙ ap (λ (z : ℤ). edge_judged n' f' z ss) c ∙ ap (edge_judged n' f' g') d

same_edges : {m m' : ℕ} {f f' g g' : ℤ} {ss ss' : List Station} → m ≡ m' → f ≡ f' → g ≡ g' → ss ≡ ss' → edge_shape m f g ss ≡ edge_shape m' f' g' ss'
same_edges {m} {m'} {f} {f'} {g} {g'} {ss} {ss'} a b c d =
    ap (λ (i : ℕ). edge_shape i f g ss) a ∙ ap (λ (z : ℤ). edge_shape m' z g ss) b ∙ ap (λ (z : ℤ). edge_shape m' f' z ss) c ∙ ap (edge_shape m' f' g') d

same_slices : (m m' : ℕ) (n n' : ℤ) → pos m ≡ n → pos m' ≡ n' → n ≡ n' → m ≡ m'
same_slices m m' n n' a b e = cc

-- ---- the script

module _ (input : List ℕ) where
  of_fault : (f g : SurfaceFault) → ScriptRefused input f → ScriptRefused input g → f ≡ g
  of_fault f g (scripts.long h) (scripts.long h') = refl
  of_fault f g (scripts.long h) (scripts.measured _ s b r) = absurd (omega arith)
  of_fault f g (scripts.long h) (scripts.sealing rows n m ps k t number kerbs calls _ s b a j) = absurd (omega arith)
  of_fault f g (scripts.long h) (scripts.lined _ s b r) = absurd (omega arith)
  of_fault f g (scripts.long h) (scripts.making n x y ss t number kerbs calls _ s b a j) = absurd (omega arith)
  of_fault f g (scripts.measured _ s b r) (scripts.long h) = absurd (omega arith)
  of_fault f g (scripts.measured _ s b r) (scripts.measured _ s' b' r') = measured_fault r r'
  of_fault f g (scripts.measured _ s b r) (scripts.sealing rows n m ps k t number kerbs calls _ s' b' a j) = absurd (measured_never a r)
  of_fault f g (scripts.measured _ s b r) (scripts.lined _ s' b' r') = absurd (b b')
  of_fault f g (scripts.measured _ s b r) (scripts.making n x y ss t number kerbs calls _ s' b' a j) = absurd (b b')
  of_fault f g (scripts.sealing rows n m ps k t number kerbs calls _ s b a j) (scripts.long h) = absurd (omega arith)
  of_fault f g (scripts.sealing rows n m ps k t number kerbs calls _ s b a j) (scripts.measured _ s' b' r) = absurd (measured_never a r)
  of_fault f g (scripts.sealing rows n m ps k t number kerbs calls _ s b a j) (scripts.sealing rows' n' m' ps' k' t' number' kerbs' calls' _ s' b' a' j') =
      let same = (measured_unique a a').0 in same_fault (seal_judged m rows k) f g j (same_seal same.0 same.2 same.4 ∙ j')
  of_fault f g (scripts.sealing rows n m ps k t number kerbs calls _ s b a j) (scripts.lined _ s' b' r) = absurd (b b')
  of_fault f g (scripts.sealing rows n m ps k t number kerbs calls _ s b a j) (scripts.making n' x y ss t' number' kerbs' calls' _ s' b' a' j') = absurd (b b')
  of_fault f g (scripts.lined _ s b r) (scripts.long h) = absurd (omega arith)
  of_fault f g (scripts.lined _ s b r) (scripts.measured _ s' b' r') = absurd (b' b)
  of_fault f g (scripts.lined _ s b r) (scripts.sealing rows n m ps k t number kerbs calls _ s' b' a j) = absurd (b' b)
  of_fault f g (scripts.lined _ s b r) (scripts.lined _ s' b' r') = lined_fault r r'
  of_fault f g (scripts.lined _ s b r) (scripts.making n x y ss t number kerbs calls _ s' b' a j) = absurd (lined_never a r)
  of_fault f g (scripts.making n x y ss t number kerbs calls _ s b a j) (scripts.long h) = absurd (omega arith)
  of_fault f g (scripts.making n x y ss t number kerbs calls _ s b a j) (scripts.measured _ s' b' r) = absurd (b' b)
  of_fault f g (scripts.making n x y ss t number kerbs calls _ s b a j) (scripts.sealing rows n' m ps k t' number' kerbs' calls' _ s' b' a' j') = absurd (b' b)
  of_fault f g (scripts.making n x y ss t number kerbs calls _ s b a j) (scripts.lined _ s' b' r) = absurd (lined_never a r)
  of_fault f g (scripts.making n x y ss t number kerbs calls _ s b a j) (scripts.making n' x' y' ss' t' number' kerbs' calls' _ s' b' a' j') =
      let same = (lined_unique a a').0 in same_fault (edge_judged n x y ss) f g j (same_making same.0 same.1 same.2 same.3 ∙ j')

  never_both : (shape : Shape) (t : Turns) (number : ℕ) (kerbs : Carriageway) (calls : List Call) (f : SurfaceFault) → ScriptSays input shape t number kerbs calls → ScriptRefused input f → ⊥
  never_both shape _ _ _ _ f (scripts.measured rows n m ps k t number kerbs calls s b a j) (scripts.long h) = omega arith
  never_both shape _ _ _ _ f (scripts.measured rows n m ps k t number kerbs calls s b a j) (scripts.measured _ s' b' r) = measured_never a r
  never_both shape _ _ _ _ f (scripts.measured rows n m ps k t number kerbs calls s b a j) (scripts.sealing rows' n' m' ps' k' t' number' kerbs' calls' _ s' b' a' j') =
      let same = (measured_unique a a').0 in clash j (same_seal same.0 same.2 same.4 ∙ j')
  never_both shape _ _ _ _ f (scripts.measured rows n m ps k t number kerbs calls s b a j) (scripts.lined _ s' b' r) = b b'
  never_both shape _ _ _ _ f (scripts.measured rows n m ps k t number kerbs calls s b a j) (scripts.making n' x y ss t' number' kerbs' calls' _ s' b' a' j') = b b'
  never_both shape _ _ _ _ f (scripts.lined m n x y ss t number kerbs calls s b a j e) (scripts.long h) = omega arith
  never_both shape _ _ _ _ f (scripts.lined m n x y ss t number kerbs calls s b a j e) (scripts.measured _ s' b' r) = b' b
  never_both shape _ _ _ _ f (scripts.lined m n x y ss t number kerbs calls s b a j e) (scripts.sealing rows n' m' ps k t' number' kerbs' calls' _ s' b' a' j') = b' b
  never_both shape _ _ _ _ f (scripts.lined m n x y ss t number kerbs calls s b a j e) (scripts.lined _ s' b' r) = lined_never a r
  never_both shape _ _ _ _ f (scripts.lined m n x y ss t number kerbs calls s b a j e) (scripts.making n' x' y' ss' t' number' kerbs' calls' _ s' b' a' j') =
      let same = (lined_unique a a').0 in clash j (same_making same.0 same.1 same.2 same.3 ∙ j')

  of_script : (shape shape' : Shape) (t t' : Turns) (number number' : ℕ) (kerbs kerbs' : Carriageway) (calls calls' : List Call) → ScriptSays input shape t number kerbs calls → ScriptSays input shape' t' number' kerbs' calls'
      → (shape ≡ shape') × (t ≡ t') × (number ≡ number') × (kerbs ≡ kerbs') × (calls ≡ calls')
  of_script _ _ _ _ _ _ _ _ _ _ (scripts.measured rows n m ps k t number kerbs calls s b a j) (scripts.measured rows' n' m' ps' k' t' number' kerbs' calls' s' b' a' j') =
      let same = measured_unique a a' in
      let part = same.0 in
      let tail = same.1 in
      (same_rows part.0 part.1 part.2 part.3 part.4, tail.0, tail.1, tail.2, tail.3)
  of_script _ _ _ _ _ _ _ _ _ _ (scripts.measured rows n m ps k t number kerbs calls s b a j) (scripts.lined m' n' x y ss t' number' kerbs' calls' s' b' a' j' e) = absurd (b b')
  of_script _ _ _ _ _ _ _ _ _ _ (scripts.lined m n x y ss t number kerbs calls s b a j e) (scripts.measured rows' n' m' ps' k' t' number' kerbs' calls' s' b' a' j') = absurd (b' b)
  of_script _ _ _ _ _ _ _ _ _ _ (scripts.lined m n x y ss t number kerbs calls s b a j e) (scripts.lined m' n' x' y' ss' t' number' kerbs' calls' s' b' a' j' e') =
      let same = lined_unique a a' in
      let part = same.0 in
      let tail = same.1 in
      (same_edges (same_slices m m' n n' e e' part.0) part.1 part.2 part.3, tail.0, tail.1, tail.2, tail.3)

pub one_script : OneScript
one_script = record { of_fault = of_fault; never_both = never_both; of_script = of_script }
