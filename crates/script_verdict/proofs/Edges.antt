-- The line that an edge surface's part says is determined, and so is why it is refused.
use Rattle.std.proofs.Common.{◌≡◌, ℕ, List, [], ◌∷◌, ℤ, sym, refl, ap, subst}
use Rattle.surface.specs.declared.fault.SurfaceFault.{SurfaceFault}
use Rattle.surface.specs.declared.fault.SurfaceFault.TheVariants.{Text}
use Rattle.table.specs.Cells.{Cell}
use Rattle.table.specs.Lines.{Line}
use Rattle.table.specs.Numbers.{Writes}
use Rattle.table.specs.Tables.{Passes}
use Rattle.table.specs.declared.fault.TextFault.{TextFault}
use Rattle.table.specs.declared.fault.TextFault.TheVariants.{Malformed}
use Rattle.table.proofs.Chains.{line_unique, line_not_broken, broken_unique}
use Rattle.records.proofs.Progress.{written_length}
use Rattle.edge.specs.declared.station.Station.{Station}
use Rattle.script.specs.Edges.{EdgeHeaded, EdgeUnheaded, EdgeBegins, EdgeRead, EdgeRefused}
use Rattle.script.specs.Edges as edges
use Rattle.script.specs.Entries.{Entered, Stopped}
use Rattle.script.specs.Stations.{StationSaid, StationUnsaid}
use Rattle.verdict.proofs.Chains.{passes_unique}
use Rattle.records.proofs.Unique.{whole_one, written_unique}
use Rattle.script_verdict.proofs.Entries.{entered_unique, entered_not, stopped_unique}
use Rattle.script_verdict.proofs.Numbers.{missed_unique, missed_not}
use Rattle.script_verdict.proofs.Stations.{station_one}

-- ---- the header

headed_unique : (cs : List Cell) (n n' f f' g g' : ℤ) → EdgeHeaded cs n f g → EdgeHeaded cs n' f' g' → (n ≡ n') × (f ≡ f') × (g ≡ g')
headed_unique [] n n' f f' g g' a b = absurd a
headed_unique (c ∷ ds) n n' f f' g g' a b =
    let same = written_unique Writes whole_one ds (n ∷ f ∷ g ∷ []) (n' ∷ f' ∷ g' ∷ []) a b in
    let one : n ≡ n' = cc in
    let two : f ≡ f' = cc in
    let three : g ≡ g' = cc in
    (one, two, three)

unheaded_unique : {cs : List Cell} {d e : TextFault} → EdgeUnheaded cs d → EdgeUnheaded cs e → d ≡ e
unheaded_unique (edges.count c ds h) (edges.count _ _ k) = refl
unheaded_unique (edges.count c ds h) (edges.number _ _ e k m) = absurd (h k)
unheaded_unique (edges.number c ds d h m) (edges.count _ _ k) = absurd (k h)
unheaded_unique (edges.number c ds d h m) (edges.number _ _ e k n) = missed_unique Writes ds 1 2 d e m n

headed_not : {cs : List Cell} {e : TextFault} (n f g : ℤ) → EdgeHeaded cs n f g → EdgeUnheaded cs e → ⊥
headed_not n f g a (edges.count c ds h) = h (sym (written_length Writes ds (n ∷ f ∷ g ∷ []) a))
headed_not n f g a (edges.number c ds e h m) = missed_not Writes ds 1 2 (n ∷ f ∷ g ∷ []) e a m

-- ---- the part

module _ {part : List ℕ} where
  begins_unique : {n n' f f' g g' : ℤ} {rest rest' : List ℕ} → EdgeBegins part n f g rest → EdgeBegins part n' f' g' rest' → (n ≡ n') × (f ≡ f') × (g ≡ g') × (rest ≡ rest')
  begins_unique {n} {n'} {f} {f'} {g} {g'} {rest} {rest'} a b =
      let l = line_unique b.cells a.cells b.line a.line in
      let h = headed_unique a.cells n n' f f' g g' a.headed (subst (λ (cs : List Cell). EdgeHeaded cs n' f' g') l.0 b.headed) in
      (h.0, h.1, h.2, passes_unique a.after rest rest' a.passes (subst (λ (x : List ℕ). Passes x rest') l.1 b.passes))

  begins_not : {n f g : ℤ} {rest : List ℕ} (cs : List Cell) (ys : List ℕ) (e : TextFault) → EdgeBegins part n f g rest → Line cs part ys → EdgeUnheaded cs e → ⊥
  begins_not {n} {f} {g} cs ys e a l u = headed_not n f g (subst (λ (ds : List Cell). EdgeHeaded ds n f g) (line_unique a.cells cs a.line l).0 a.headed) u

  pub edge_unique : {n n' f f' g g' : ℤ} {ss ss' : List Station} → EdgeRead part n f g ss → EdgeRead part n' f' g' ss' → (n ≡ n') × (f ≡ f') × (g ≡ g') × (ss ≡ ss')
  edge_unique {ss' = ss'} a b =
      let h = begins_unique a.begins b.begins in
      (h.0, h.1, h.2, entered_unique StationSaid StationUnsaid station_one a.rows (subst (λ (x : List ℕ). Entered StationSaid x ss') (sym h.3) b.rows))

  pub edge_not : {n f g : ℤ} {ss : List Station} {e : SurfaceFault} → EdgeRead part n f g ss → EdgeRefused part e → ⊥
  edge_not a (edges.broken i b) = line_not_broken a.begins.cells a.begins.line b
  edge_not a (edges.header cs ys e l u) = begins_not cs ys e a.begins l u
  edge_not a (edges.row n f g rest e b s) =
      let h = begins_unique b a.begins in
      entered_not StationSaid StationUnsaid station_one a.rows (subst (λ (x : List ℕ). Stopped StationSaid StationUnsaid 2 x e) h.3 s)

  pub edge_fault : {d e : SurfaceFault} → EdgeRefused part d → EdgeRefused part e → d ≡ e
  edge_fault (edges.broken i b) (edges.broken j c) = ap (λ (k : ℕ). Text (Malformed 1 k)) (broken_unique b c)
  edge_fault (edges.broken i b) (edges.header cs ys e l u) = absurd (line_not_broken cs l b)
  edge_fault (edges.broken i b) (edges.row n f g rest e a s) = absurd (line_not_broken a.cells a.line b)
  edge_fault (edges.header cs ys d l u) (edges.broken j c) = absurd (line_not_broken cs l c)
  edge_fault (edges.header cs ys d l u) (edges.header ds zs e k v) = ap Text (unheaded_unique u (subst (λ (x : List Cell). EdgeUnheaded x e) (line_unique ds cs k l).0 v))
  edge_fault (edges.header cs ys d l u) (edges.row n f g rest e a s) = absurd (begins_not cs ys d a l u)
  edge_fault (edges.row n f g rest d a s) (edges.broken j c) = absurd (line_not_broken a.cells a.line c)
  edge_fault (edges.row n f g rest d a s) (edges.header cs ys e l u) = absurd (begins_not cs ys e a l u)
  edge_fault (edges.row n f g rest d a s) (edges.row n' f' g' rest' e b t) =
      stopped_unique StationSaid StationUnsaid station_one s (subst (λ (x : List ℕ). Stopped StationSaid StationUnsaid 2 x e) (begins_unique b a).3 t)
