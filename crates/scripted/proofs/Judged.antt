-- From what was read, by the verdict on the surface as a whole, to what the run of a script leaves.
use Rattle.std.proofs.Common.{◌≡◌, ℕ, ◌≤◌, List, length, ℤ, pos, IfOk, Some, None, Ok, Err, Option, Result, sym, refl, ap, ◌∙◌, subst, arith}
use Rattle.surface.specs.Told.{surface_told}
use Rattle.surface.specs.Verdict.{Verdict, Answered}
use Rattle.surface.specs.declared.fault.SurfaceFault.{SurfaceFault}
use Rattle.table.specs.declared.fault.Report.{Report}
use Rattle.measured.specs.Judged.{seal_judged}
use Rattle.measured.specs.Rows.{rows_shape}
use Rattle.measured.specs.declared.row.Row.{Row}
use Rattle.edge.specs.Edges.{edge_shape}
use Rattle.edge.specs.Judged.{edge_judged}
use Rattle.edge.specs.declared.station.Station.{Station}
use Rattle.readings.specs.Blank.{blank_rows}
use Rattle.model.specs.declared.lanes.Carriageway.{Carriageway}
use Rattle.card.specs.declared.calls.Call.{Call}
use Rattle.statement.specs.Runs.{Duty}
use Rattle.table.specs.Told.{refusal_text}
use Rattle.script.specs.Faults.{IfTold}
use Rattle.script.specs.Parts.{BeginsEdge}
use Rattle.script.specs.Scripts.{MeasuredSays, LinedSays}
use Rattle.script.specs.Turns.{turned_shape}
use Rattle.script.specs.declared.fault.ScriptFault.{ScriptFault}
use Rattle.script.specs.declared.fault.ScriptFault.TheVariants.{Told}
use Rattle.script.specs.declared.turns.Turns.{Turns}
use Rattle.scripted.specs.Runs.{RanSo, bytes_in}
use Rattle.scripted.specs.Scripts.{ScriptRefused, ScriptRan, Unread, JudgedRan, OverEdges, EdgeJudgedRan, LinedRan}
use Rattle.scripted.specs.Scripts as scripts

-- ---- refusals

-- the line that is made of a fault
line_unread : {X Y : Type 0} (bytes : X → List ℕ) (f : SurfaceFault) (rep : Report) (r : Result X Y) → rep ≡ surface_told f → IfOk r (λ x. bytes x ≡ refusal_text rep) → Unread (Told f) (bytes_in bytes r) None
line_unread bytes f rep (Ok x) is w = subst (λ (t : List ℕ). Unread (Told f) (Some t) None) (sym (w ∙ ap refusal_text is)) (scripts.told f)
line_unread bytes f rep (Err y) is w = scripts.unwritten (Told f)

pub told_unread : {X Y : Type 0} (bytes : X → List ℕ) (fault : ScriptFault) (f : SurfaceFault) (rep : Report) (r t : Result X Y) → fault ≡ Told f → rep ≡ surface_told f → IfOk r (λ x. bytes x ≡ refusal_text rep) → t ≡ r
    → Unread fault (bytes_in bytes t) None
told_unread bytes fault f rep r t fault-is rep-is w text-is =
    subst (λ (e : ScriptFault). Unread e (bytes_in bytes t) None) (sym fault-is) (subst (λ (x : Result _ _). Unread (Told f) (bytes_in bytes x) None) (sym text-is) (line_unread bytes f rep r rep-is w))

pub unread_ran : (input : List ℕ) (P : SurfaceFault → Type 0) → ((f : SurfaceFault) → P f → ScriptRefused input f) → (e : ScriptFault) (text : Option (List ℕ)) (duty : Option Duty) → IfTold P e → Unread e text duty → ScriptRan input text duty
unread_ran input P h e text duty p (scripts.told f) = scripts.refused f (h f p)
unread_ran input P h e text duty p (scripts.unwritten x) = scripts.no_memory

-- ---- a run's table

module _ (input : List ℕ) (short : length input ≤ 65536) (rows : List Row) (slices count : ℕ) (paths : List ℕ) (stations : ℕ) (t : Turns) (number : ℕ) (kerbs : Carriageway) (calls : List Call) (text : Option (List ℕ)) (duty : Option Duty)
    (plain : BeginsEdge input → ⊥) (says : MeasuredSays input blank_rows rows slices count paths stations t number kerbs calls) where
  by_sealing : (v : Verdict) → seal_judged count rows stations ≡ v → JudgedRan v (turned_shape t (rows_shape slices count paths stations rows)) number kerbs calls text duty → ScriptRan input text duty
  by_sealing (Ok x) e r = scripts.ran (rows_shape slices count paths stations rows) t number kerbs calls text duty (scripts.measured rows slices count paths stations t number kerbs calls short plain says e) r
  by_sealing (Err f) e u = unread_ran input (λ g. g ≡ f) (λ g is. subst (ScriptRefused input) (sym is) (scripts.sealing rows slices count paths stations t number kerbs calls f short plain says e)) (Told f) text duty refl u

  pub sealed_ran : JudgedRan (seal_judged count rows stations) (turned_shape t (rows_shape slices count paths stations rows)) number kerbs calls text duty → ScriptRan input text duty
  sealed_ran r = by_sealing (seal_judged count rows stations) refl r

-- ---- an edge surface

module _ (input : List ℕ) (short : length input ≤ 65536) (n f g : ℤ) (ss : List Station) (t : Turns) (number : ℕ) (kerbs : Carriageway) (calls : List Call) (text : Option (List ℕ)) (duty : Option Duty)
    (edged : BeginsEdge input) (says : LinedSays input n f g ss t number kerbs calls) where
  by_making : (v : Verdict) → edge_judged n f g ss ≡ v → EdgeJudgedRan v n f g ss t number kerbs calls text duty → ScriptRan input text duty
  by_making (Ok x) e o = scripts.ran (edge_shape o.slices f g ss) t number kerbs calls text duty (scripts.lined o.slices n f g ss t number kerbs calls short edged says e o.same) o.ran
  by_making (Err h) e u = unread_ran input (λ k. k ≡ h) (λ k is. subst (ScriptRefused input) (sym is) (scripts.making n f g ss t number kerbs calls h short edged says e)) (Told h) text duty refl u

  pub lined_ran : LinedRan n f g ss t number kerbs calls text duty → ScriptRan input text duty
  lined_ran r = by_making (edge_judged n f g ss) refl r

never : {f : SurfaceFault} → ◌≡◌ {A = Verdict} (Ok tt) (Err f) → ⊥
never h = let z : ◌≡◌ {A = ℕ} 0 1 = cc in omega arith

module _ (n f g : ℤ) (ss : List Station) (t : Turns) (number : ℕ) (kerbs : Carriageway) (calls : List Call) (text : Option (List ℕ)) (duty : Option Duty) where
  over : (v : Verdict) (P K : Type 0) → Answered v (Ok tt) P K → (P → OverEdges n f g ss t number kerbs calls text duty) → EdgeJudgedRan v n f g ss t number kerbs calls text duty
  over (Ok x) P K a h = h a.1
  over (Err e) P K a h = absurd (never a.0)

  pub made_over : (m : ℕ) (l r : ℤ) (line : List Station) (K : Type 0) → Answered (edge_judged n f g ss) (Ok tt) ((pos m ≡ n) × (l ≡ f) × (r ≡ g) × (line ≡ ss)) K
      → RanSo (turned_shape t (edge_shape m l r line)) number kerbs calls text duty → LinedRan n f g ss t number kerbs calls text duty
  made_over m l r line K a so =
      over (edge_judged n f g ss) _ K a (λ p.
      let x = subst (λ (z : ℤ). RanSo (turned_shape t (edge_shape m z r line)) number kerbs calls text duty) p.1 so in
      let y = subst (λ (z : ℤ). RanSo (turned_shape t (edge_shape m f z line)) number kerbs calls text duty) p.2 x in
      let w = subst (λ (z : List Station). RanSo (turned_shape t (edge_shape m f g z)) number kerbs calls text duty) p.3 y in
      record { slices = m; same = p.0; ran = w })

  unmade : (v : Verdict) (e : SurfaceFault) (P K : Type 0) → Answered v (Err e) P K → Unread (Told e) text duty → EdgeJudgedRan v n f g ss t number kerbs calls text duty
  unmade (Ok x) e P K a u = absurd (never (sym a.0))
  unmade (Err h) e P K a u = let same : e ≡ h = (let q = a.0 in cc) in subst (λ (z : SurfaceFault). Unread (Told z) text duty) same u

  pub refused_over : (e : SurfaceFault) (P K : Type 0) → Answered (edge_judged n f g ss) (Err e) P K → Unread (Told e) text duty → LinedRan n f g ss t number kerbs calls text duty
  refused_over e P K a u = unmade (edge_judged n f g ss) e P K a u
