-- One record is taken or refused, never both, and for one fault.
use Rattle.std.proofs.Common.{◌≡◌, ℕ, ◌+◌, List, ◌∷◌, length, ℤ, Ok, Err, sym, refl, ap, ◌∙◌, subst, arith}
use Rattle.measured.specs.Judged.{header_judged, station_judged}
use Rattle.measured.specs.declared.row.Row.{Row}
use Rattle.surface.specs.Verdict.{Verdict}
use Rattle.surface.specs.declared.fault.SurfaceFault.{SurfaceFault}
use Rattle.surface.specs.declared.fault.SurfaceFault.TheVariants.{Text}
use Rattle.table.specs.Cells.{Cell}
use Rattle.table.specs.Lines.{Line}
use Rattle.table.specs.declared.fault.TextFault.TheVariants.{Malformed}
use Rattle.table.proofs.Chains.{line_unique, line_not_broken, broken_unique}
use Rattle.table.specs.Numbers.{Writes}
use Rattle.records.specs.Numbers.{Written, Unwritten}
use Rattle.readings.specs.Runs.{Headed, HeaderRefused, HeaderStops, RowRefused, RowStops, slices_of}
use Rattle.readings.specs.Runs as runs
use Rattle.records.proofs.Progress.{written_length}
use Rattle.records.proofs.Unique.{whole_one, written_unique, unwritten_unique, unwritten_not}

pub clash : {v : Verdict} {f : SurfaceFault} → v ≡ Ok tt → v ≡ Err f → ⊥
clash a b = let z : ◌≡◌ {A = ℕ} 0 1 = cc in omega arith

pub same_fault : (v : Verdict) (f g : SurfaceFault) → v ≡ Err f → v ≡ Err g → f ≡ g
same_fault v f g a b = cc

-- ---- the header

pub headed_unique : (h : List Cell) (ps qs : List ℤ) → Headed h ps → Headed h qs → ps ≡ qs
headed_unique h ps qs a b =
    let s = a.splits in
    let t = b.splits in
    let same : b.others ≡ a.others = cc in
    written_unique Writes whole_one a.others ps qs a.paths (subst (λ (l : List Cell). Written Writes l qs) same b.paths)

header_fault : (h k : List Cell) (f g : SurfaceFault) → HeaderRefused h f → HeaderRefused k g → h ≡ k → f ≡ g
header_fault h k f g (runs.word c cs no-mm) (runs.word d ds no-mm') e = refl
header_fault h k f g (runs.word c cs no-mm) (runs.number d ds j says w) e = let s : d ≡ c = cc in absurd (no-mm (subst runs.SaysMm s says))
header_fault h k f g (runs.word c cs no-mm) (runs.paths d ds qs _ says w j) e = let s : d ≡ c = cc in absurd (no-mm (subst runs.SaysMm s says))
header_fault h k f g (runs.number c cs i says u) (runs.word d ds no-mm) e = let s : c ≡ d = cc in absurd (no-mm (subst runs.SaysMm s says))
header_fault h k f g (runs.number c cs i says u) (runs.number d ds j says' u') e =
    let s : ds ≡ cs = cc in
    ap (λ (n : ℕ). Text (Malformed 1 (n + 2))) (unwritten_unique Writes cs i j u (subst (λ (l : List Cell). Unwritten Writes l j) s u'))
header_fault h k f g (runs.number c cs i says u) (runs.paths d ds qs _ says' w j) e =
    let s : ds ≡ cs = cc in absurd (unwritten_not Writes cs qs i (subst (λ (l : List Cell). Written Writes l qs) s w) u)
header_fault h k f g (runs.paths c cs ps _ says w j) (runs.word d ds no-mm) e = let s : c ≡ d = cc in absurd (no-mm (subst runs.SaysMm s says))
header_fault h k f g (runs.paths c cs ps _ says w j) (runs.number d ds i says' u) e =
    let s : cs ≡ ds = cc in absurd (unwritten_not Writes ds ps i (subst (λ (l : List Cell). Written Writes l ps) s w) u)
header_fault h k f g (runs.paths c cs ps _ says w j) (runs.paths d ds qs _ says' w' j') e =
    let s : ds ≡ cs = cc in
    let same = written_unique Writes whole_one cs ps qs w (subst (λ (l : List Cell). Written Writes l qs) s w') in
    same_fault (header_judged (slices_of ps) ps) f g j (ap (λ (l : List ℤ). header_judged (slices_of l) l) same ∙ j')

header_not : (h k : List Cell) (ps : List ℤ) (f : SurfaceFault) → Headed h ps → HeaderRefused k f → k ≡ h → ⊥
header_not h k ps f a (runs.word d ds no-mm) e = let s = a.splits in let t : a.word ≡ d = cc in no-mm (subst runs.SaysMm t a.says)
header_not h k ps f a (runs.number d ds i says u) e = let s = a.splits in let t : a.others ≡ ds = cc in unwritten_not Writes ds ps i (subst (λ (l : List Cell). Written Writes l ps) t a.paths) u
header_not h k ps f a (runs.paths d ds qs _ says w j) e =
    let s = a.splits in
    let t : ds ≡ a.others = cc in
    let same = written_unique Writes whole_one a.others qs ps (subst (λ (l : List Cell). Written Writes l qs) t w) a.paths in
    clash (ap (λ (l : List ℤ). header_judged (slices_of l) l) same ∙ a.lawful) j

pub header_one : (input : List ℕ) (f g : SurfaceFault) → HeaderStops input f → HeaderStops input g → f ≡ g
header_one input f g (runs.text i b) (runs.text j c) = ap (λ (n : ℕ). Text (Malformed 1 n)) (broken_unique b c)
header_one input f g (runs.text i b) (runs.said cs ys _ l r) = absurd (line_not_broken cs l b)
header_one input f g (runs.said cs ys _ l r) (runs.text j c) = absurd (line_not_broken cs l c)
header_one input f g (runs.said cs ys _ l r) (runs.said ds zs _ k q) = header_fault cs ds f g r q (line_unique cs ds l k).0

pub header_never : (input : List ℕ) (h : List Cell) (ys : List ℕ) (ps : List ℤ) (f : SurfaceFault) → Line h input ys → Headed h ps → HeaderStops input f → ⊥
header_never input h ys ps f l a (runs.text i b) = line_not_broken h l b
header_never input h ys ps f l a (runs.said cs zs _ k r) = header_not h cs ps f a r (line_unique cs h k l).0

-- ---- a row

counted : (cs : List Cell) (z : ℤ) (vs : List ℤ) (m : ℕ) → Written Writes cs (z ∷ vs) → length vs ≡ m → length cs ≡ m + 1
counted cs z vs m w e = let n = written_length Writes cs (z ∷ vs) w in omega arith

module _ (m k : ℕ) (rows : List Row) where
  same_station : (cs : List Cell) (z y : ℤ) (vs us : List ℤ) → Written Writes cs (z ∷ vs) → Written Writes cs (y ∷ us) → station_judged m k rows z vs ≡ station_judged m k rows y us
  same_station cs z y vs us w u = let s = written_unique Writes whole_one cs (z ∷ vs) (y ∷ us) w u in let a : z ≡ y = cc in let b : vs ≡ us = cc in cc

  row_fault : (cs : List Cell) (f g : SurfaceFault) → RowRefused m k rows cs f → RowRefused m k rows cs g → f ≡ g
  row_fault cs f g (runs.fields n) (runs.fields n') = refl
  row_fault cs f g (runs.fields n) (runs.number j c u) = absurd (n c)
  row_fault cs f g (runs.fields n) (runs.station y us _ c w j) = absurd (n (counted cs y us m w c))
  row_fault cs f g (runs.number i c u) (runs.fields n) = absurd (n c)
  row_fault cs f g (runs.number i c u) (runs.number j c' u') = ap (λ (n : ℕ). Text (Malformed (k + 2) (n + 1))) (unwritten_unique Writes cs i j u u')
  row_fault cs f g (runs.number i c u) (runs.station y us _ c' w j) = absurd (unwritten_not Writes cs (y ∷ us) i w u)
  row_fault cs f g (runs.station z vs _ c w j) (runs.fields n) = absurd (n (counted cs z vs m w c))
  row_fault cs f g (runs.station z vs _ c w j) (runs.number i c' u) = absurd (unwritten_not Writes cs (z ∷ vs) i w u)
  row_fault cs f g (runs.station z vs _ c w j) (runs.station y us _ c' w' j') = same_fault (station_judged m k rows z vs) f g j (same_station cs z y vs us w w' ∙ j')

  row_not : (cs : List Cell) (z : ℤ) (vs : List ℤ) (f : SurfaceFault) → Written Writes cs (z ∷ vs) → length vs ≡ m → station_judged m k rows z vs ≡ Ok tt → RowRefused m k rows cs f → ⊥
  row_not cs z vs f w c j (runs.fields n) = n (counted cs z vs m w c)
  row_not cs z vs f w c j (runs.number i c' u) = unwritten_not Writes cs (z ∷ vs) i w u
  row_not cs z vs f w c j (runs.station y us _ c' w' j') = clash (sym (same_station cs z y vs us w w') ∙ j) j'

  pub row_one : (rest : List ℕ) (f g : SurfaceFault) → RowStops m k rows rest f → RowStops m k rows rest g → f ≡ g
  row_one rest f g (runs.text i b) (runs.text j c) = ap (λ (n : ℕ). Text (Malformed (k + 2) n)) (broken_unique b c)
  row_one rest f g (runs.text i b) (runs.said cs ys _ l r) = absurd (line_not_broken cs l b)
  row_one rest f g (runs.said cs ys _ l r) (runs.text j c) = absurd (line_not_broken cs l c)
  row_one rest f g (runs.said cs ys _ l r) (runs.said ds zs _ q p) =
      row_fault cs f g r (subst (λ (c : List Cell). RowRefused m k rows c g) (line_unique ds cs q l).0 p)

  pub row_never : (rest : List ℕ) (cs : List Cell) (ys : List ℕ) (z : ℤ) (vs : List ℤ) (f : SurfaceFault) → Line cs rest ys → Written Writes cs (z ∷ vs) → length vs ≡ m → station_judged m k rows z vs ≡ Ok tt → RowStops m k rows rest f → ⊥
  row_never rest cs ys z vs f l w c j (runs.text i b) = line_not_broken cs l b
  row_never rest cs ys z vs f l w c j (runs.said ds zs _ q r) = row_not cs z vs f w c j (subst (λ (d : List Cell). RowRefused m k rows d f) (line_unique ds cs q l).0 r)
