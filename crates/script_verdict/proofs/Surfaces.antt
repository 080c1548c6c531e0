-- A script over a run's table, and one over an edge surface's line, is read or refused, never both, and in one way only.
use Rattle.std.proofs.Common.{◌≡◌, ℕ, List, take, drop, ℤ, sym, subst}
use Rattle.surface.specs.declared.fault.SurfaceFault.{SurfaceFault}
use Rattle.measured.specs.declared.row.Row.{Row}
use Rattle.readings.specs.Runs.{RunTaken, RunRefused}
use Rattle.edge.specs.declared.station.Station.{Station}
use Rattle.model.specs.declared.lanes.Carriageway.{Carriageway}
use Rattle.card.specs.declared.calls.Call.{Call}
use Rattle.script.specs.Edges.{EdgeRead, EdgeRefused}
use Rattle.script.specs.Parts.{EndsAt}
use Rattle.script.specs.Scripts.{MeasuredSays, MeasuredRefused, LinedSays, LinedRefused}
use Rattle.script.specs.Scripts as scripts
use Rattle.script.specs.Tails.{TailSaid, TailRefused}
use Rattle.script.specs.declared.turns.Turns.{Turns}
use Rattle.verdict.proofs.One.{one_verdict}
use Rattle.script_verdict.proofs.Edges.{edge_unique, edge_not, edge_fault}
use Rattle.script_verdict.proofs.Parts.{ends_unique}
use Rattle.script_verdict.proofs.Tails.{tail_unique, tail_never, tail_fault}

-- ---- what follows the surface, where the part ends in one way

module _ {input : List ℕ} {end end' next next' : ℕ} (a : EndsAt input end next) (b : EndsAt input end' next') where
  -- what is said of the one part and of what follows it holds of the other
  part_moved : (P : List ℕ → Type 0) → P (take end' input) → P (take end input)
  part_moved P = subst (λ (n : ℕ). P (take n input)) (sym (ends_unique a b).0)

  said_moved : {t : Turns} {n : ℕ} {k : Carriageway} {cs : List Call} → TailSaid (drop end' input) next' t n k cs → TailSaid (drop end input) next t n k cs
  said_moved {t} {n} {k} {cs} s =
      subst (λ (i : ℕ). TailSaid (drop end input) i t n k cs) (sym (ends_unique a b).1) (subst (λ (i : ℕ). TailSaid (drop i input) next' t n k cs) (sym (ends_unique a b).0) s)

  refused_moved : {f : SurfaceFault} → TailRefused next' (drop end' input) f → TailRefused next (drop end input) f
  refused_moved {f} s = subst (λ (i : ℕ). TailRefused i (drop end input) f) (sym (ends_unique a b).1) (subst (λ (i : ℕ). TailRefused next' (drop i input) f) (sym (ends_unique a b).0) s)

-- ---- a run's table

module _ {input : List ℕ} {old : List Row} where
  pub measured_unique : {rows rows' : List Row} {n n' m m' : ℕ} {ps ps' : List ℕ} {k k' : ℕ} {t t' : Turns} {number number' : ℕ} {kerbs kerbs' : Carriageway} {calls calls' : List Call}
      → MeasuredSays input old rows n m ps k t number kerbs calls → MeasuredSays input old rows' n' m' ps' k' t' number' kerbs' calls'
      → ((rows ≡ rows') × (n ≡ n') × (m ≡ m') × (ps ≡ ps') × (k ≡ k')) × ((t ≡ t') × (number ≡ number') × (kerbs ≡ kerbs') × (calls ≡ calls'))
  measured_unique {rows} {rows'} {n} {n'} {m} {m'} {ps} {ps'} {k} {k'} a b = (
    one_verdict.of_rows (take a.end input) old rows rows' n n' m m' ps ps' k k' a.run (part_moved a.ends b.ends (λ (x : List ℕ). RunTaken x old rows' n' m' ps' k') b.run),
    tail_unique a.tail (said_moved a.ends b.ends b.tail),
  )

  pub measured_never : {rows : List Row} {n m : ℕ} {ps : List ℕ} {k : ℕ} {t : Turns} {number : ℕ} {kerbs : Carriageway} {calls : List Call} {f : SurfaceFault}
      → MeasuredSays input old rows n m ps k t number kerbs calls → MeasuredRefused input old f → ⊥
  measured_never {rows} {n} {m} {ps} {k} a (scripts.run end next f e r) =
      one_verdict.never_both (take a.end input) old rows n m ps k f a.run (part_moved a.ends e (λ (x : List ℕ). RunRefused x old f) r)
  measured_never a (scripts.tail end next rows n m ps k f e r s) = tail_never a.tail (refused_moved a.ends e s)

  pub measured_fault : {f g : SurfaceFault} → MeasuredRefused input old f → MeasuredRefused input old g → f ≡ g
  measured_fault (scripts.run end next f a r) (scripts.run end' next' g b s) = one_verdict.of_fault (take end input) old f g r (part_moved a b (λ (x : List ℕ). RunRefused x old g) s)
  measured_fault (scripts.run end next f a r) (scripts.tail end' next' rows n m ps k g b s v) =
      absurd (one_verdict.never_both (take end' input) old rows n m ps k f s (part_moved b a (λ (x : List ℕ). RunRefused x old f) r))
  measured_fault (scripts.tail end next rows n m ps k f a r u) (scripts.run end' next' g b s) =
      absurd (one_verdict.never_both (take end input) old rows n m ps k g r (part_moved a b (λ (x : List ℕ). RunRefused x old g) s))
  measured_fault (scripts.tail end next rows n m ps k f a r u) (scripts.tail end' next' rows' n' m' ps' k' g b s v) = tail_fault u (refused_moved a b v)

-- ---- an edge surface's line

module _ {input : List ℕ} where
  pub lined_unique : {n n' f f' g g' : ℤ} {ss ss' : List Station} {t t' : Turns} {number number' : ℕ} {kerbs kerbs' : Carriageway} {calls calls' : List Call}
      → LinedSays input n f g ss t number kerbs calls → LinedSays input n' f' g' ss' t' number' kerbs' calls'
      → ((n ≡ n') × (f ≡ f') × (g ≡ g') × (ss ≡ ss')) × ((t ≡ t') × (number ≡ number') × (kerbs ≡ kerbs') × (calls ≡ calls'))
  lined_unique {n' = n'} {f' = f'} {g' = g'} {ss' = ss'} a b = (
    edge_unique a.line (part_moved a.ends b.ends (λ (x : List ℕ). EdgeRead x n' f' g' ss') b.line),
    tail_unique a.tail (said_moved a.ends b.ends b.tail),
  )

  pub lined_never : {n f g : ℤ} {ss : List Station} {t : Turns} {number : ℕ} {kerbs : Carriageway} {calls : List Call} {e : SurfaceFault} → LinedSays input n f g ss t number kerbs calls → LinedRefused input e → ⊥
  lined_never a (scripts.line end next e b r) = edge_not a.line (part_moved a.ends b (λ (x : List ℕ). EdgeRefused x e) r)
  lined_never a (scripts.tail end next n f g ss e b r s) = tail_never a.tail (refused_moved a.ends b s)

  pub lined_fault : {d e : SurfaceFault} → LinedRefused input d → LinedRefused input e → d ≡ e
  lined_fault (scripts.line end next d a r) (scripts.line end' next' e b s) = edge_fault r (part_moved a b (λ (x : List ℕ). EdgeRefused x e) s)
  lined_fault (scripts.line end next d a r) (scripts.tail end' next' n f g ss e b s v) = absurd (edge_not s (part_moved b a (λ (x : List ℕ). EdgeRefused x d) r))
  lined_fault (scripts.tail end next n f g ss d a r u) (scripts.line end' next' e b s) = absurd (edge_not r (part_moved a b (λ (x : List ℕ). EdgeRefused x e) s))
  lined_fault (scripts.tail end next n f g ss d a r u) (scripts.tail end' next' n' f' g' ss' e b s v) = tail_fault u (refused_moved a b v)
