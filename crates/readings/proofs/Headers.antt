-- A header, from its fields to the draft that it begins or the fault that it is refused for.
use Rattle.std.proofs.Common.{◌≡◌, ℕ, zero, suc, ◌+◌, ◌-◌, ◌<◌, ◌≤◌, Bool, true, false, ◌||◌, ltb, List, [], ◌∷◌, length, get_or, drop, ℤ, pos, nat_abs, Ok, Err, Result, sym, refl, ap, ◌∙◌, subst, ⊎_elim, arith, MatchResult}
use lib.Signed.{lt_z}
use Rattle.std.proofs.lemmas.List.{length-append}
use Rattle.std.proofs.lemmas.Bool.{cases_lt, cond-true, lt-ltb}
use Rattle.measured.specs.Judged.{Begun, header_judged, path_judged}
use Rattle.measured.specs.declared.measured.Draft.{Draft}
use Rattle.surface.specs.Turns.{abs_neg}
use Rattle.surface.specs.Verdict.{Granted, each_judged}
use Rattle.surface.specs.declared.fault.SurfaceFault.{SurfaceFault}
use Rattle.surface.specs.declared.fault.SurfaceFault.TheVariants.{Text, Counts}
use Rattle.table.specs.Cells.{Cell, cell_of, written}
use Rattle.table.specs.Lines.{Line, FieldRead, joined}
use Rattle.table.specs.Numbers.{Writes, unsigned, minus}
use Rattle.table.specs.declared.fault.TextFault.{TextFault}
use Rattle.table.specs.declared.fault.TextFault.TheVariants.{Malformed}
use Rattle.table.specs.declared.field.FieldEnd.{FieldEnd}
use Rattle.table.proofs.Chains.{line_some}
use Rattle.table.proofs.Numerals.{numeral_lt}
use Rattle.records.specs.Numbers.{Written, Missed}
use Rattle.records.proofs.Progress.{first_read}
use Rattle.readings.specs.Runs.{SaysMm, slices_of, Headed, Opened, HeaderRefused}
use Rattle.readings.specs.Runs as runs

-- ---- numbers

-- a number of seven digits is below ten million
writes_small : {bs : List ℕ} {v : ℤ} → Writes bs v → nat_abs v < 10000000
writes_small (unsigned n d e) = omega (arith, numeral_lt d, ap nat_abs e)
writes_small (minus ds n b d e) = omega (arith, numeral_lt d, ap nat_abs e, abs_neg (pos n))

pub written_small : (cs : List Cell) (vs : List ℤ) → Written Writes cs vs → (k : ℕ) → nat_abs (get_or vs k (pos 0)) < 10000000
written_small [] [] w k = omega arith
written_small [] (v ∷ vs) w k = absurd w
written_small (c ∷ cs) [] w k = omega arith
written_small (c ∷ cs) (v ∷ vs) w zero = writes_small w.0
written_small (c ∷ cs) (v ∷ vs) w (suc k) = written_small cs vs w.1 k

-- ---- fields

-- the first field of a record, and the others
pub record Split (cs : List Cell) (c : Cell) (input ys : List ℕ) (next : ℕ) : Type 0 where
  pub others : List Cell
  pub splits : cs ≡ c ∷ others
  pub line : 0 < length others → Line others (drop (next + 1) input) ys

pub split : (cs : List Cell) {input ys : List ℕ} {r f : ℕ} {e : FieldEnd} → Line cs (drop 0 input) ys → FieldRead input 0 r f e → Split cs (cell_of e.field.text) input ys e.next
split [] l k = absurd (line_some l)
split (t ∷ us) l k = let p = first_read t us l k in record { others = us; splits = ap (λ (c : Cell). c ∷ us) (sym p.0); line = λ h. (p.1 h).1 }

joined_long : (cs : List Cell) → length cs ≤ length (joined cs) + 1
joined_long [] = omega arith
joined_long (c ∷ []) = omega arith
joined_long (c ∷ d ∷ ds) =
    let more = joined_long (d ∷ ds) in
    let long = length-append (written c) (44 ∷ joined (d ∷ ds)) in
    omega arith

-- a record has at most one field more than it has bytes
pub line_few : {cs : List Cell} {xs ys : List ℕ} → Line cs xs ys → length cs ≤ length xs + 1
line_few {cs} {xs} {ys} l = let n = joined_long cs in omega (arith, ap length l.splits, length-append (joined cs) ys)

-- ---- verdicts

pos_of : (n : ℕ) → (n ≡ 0 → ⊥) → 0 < n
pos_of zero h = absurd (h refl)
pos_of (suc n) h = omega arith

or_last : (a b c d : Bool) → d ≡ true → (a || (b || (c || d))) ≡ true
or_last true b c d e = refl
or_last false true c d e = refl
or_last false false true d e = refl
or_last false false false d e = e

-- more than eight paths are refused whatever they are
pub header_many : (n : ℤ) (ps : List ℤ) → 8 < length ps → header_judged n ps ≡ Err (Counts 1 0)
header_many n ps h = cond-true (lt_z n (pos 60) || (lt_z (pos 300) n || (ltb (length ps) 1 || ltb 8 (length ps)))) (Err (Counts 1 0)) (each_judged (path_judged n ps) 0 (length ps)) (or_last (lt_z n (pos 60)) (lt_z (pos 300) n) (ltb (length ps) 1) (ltb 8 (length ps)) (lt-ltb 8 (length ps) h))

module _ {cs : List Cell} {c : Cell} {input ys : List ℕ} {next : ℕ} (s : Split cs c input ys next) where
  -- said of the fields apart, and so of the record
  whole : (f : SurfaceFault) → HeaderRefused (c ∷ s.others) f → HeaderRefused cs f
  whole f = subst (λ (l : List Cell). HeaderRefused l f) (sym s.splits)

  pub others_count : (n : ℕ) → length cs ≡ n → length s.others ≡ n - 1
  others_count n e = omega (arith, ap length s.splits)

  -- what is known of the record after the first field
  pub of_others : {P : List Cell → Type 0} (n : ℕ) → length cs ≡ n → (n - 1 ≡ 0 → ⊥) → ((ds : List Cell) (zs : List ℕ) → Line ds (drop (next + 1) input) zs → length ds ≡ n - 1 → P ds) → P s.others
  of_others n e some f =
      let m = others_count n e in
      let more : 0 < length s.others = pos_of (length s.others) (λ z. some (sym m ∙ z)) in
      f s.others ys (s.line more) m

  pub refused_word : (SaysMm c → ⊥) → HeaderRefused cs (Text (Malformed 1 1))
  refused_word h = whole _ (runs.word c s.others h)

  pub refused_number : (e : TextFault) → SaysMm c → Missed Writes s.others 1 2 e → HeaderRefused cs (Text e)
  refused_number e h m =
      let swap : 2 + m.index ≡ m.index + 2 = omega arith in
      let is : e ≡ Malformed 1 (m.index + 2) = m.place ∙ ap (Malformed 1) swap in
      subst (λ (t : TextFault). HeaderRefused cs (Text t)) (sym is) (whole _ (runs.number c s.others m.index h m.unwritten))

  pub refused_paths : (f : SurfaceFault) (ps : List ℤ) → SaysMm c → Written Writes s.others ps → header_judged (slices_of ps) ps ≡ Err f → HeaderRefused cs f
  refused_paths f ps h w e = whole f (runs.paths c s.others ps f h w e)

  pub opened : (r : Result Draft SurfaceFault) (ps : List ℤ)
      → Granted (header_judged (slices_of ps) ps) r (λ d. Begun (slices_of ps) ps d.layout.slices d.layout.count d.layout.paths d.filled)
      → SaysMm c → Written Writes s.others ps
      → MatchResult r (λ d. Opened cs d.layout.slices d.layout.count d.layout.paths d.filled) (λ f. HeaderRefused cs f)
  opened (Ok d) ps g h w = record {
    numbers = ps;
    headed = record { word = c; others = s.others; splits = s.splits; says = h; paths = w; lawful = g.0 };
    begun = g.1;
  }
  opened (Err f) ps g h w = refused_paths f ps h w g

-- a lawful header has at most eight paths
pub header_few : (ps : List ℤ) → header_judged (slices_of ps) ps ≡ Ok tt → length ps ≤ 8
header_few ps e = ⊎_elim (λ more. let m = header_many (slices_of ps) ps more in let z : ◌≡◌ {A = ℕ} 0 1 = cc in absurd (omega arith)) (λ h. h) (cases_lt 8 (length ps))
