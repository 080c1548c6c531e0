-- A header and rows that the verdicts pass are lawful.
use Rattle.std.proofs.Common.{◌≡◌, ℕ, zero, suc, ◌+◌, ◌-◌, ◌<◌, ◌≤◌, true, false, ◌&&◌, ◌||◌, eqb, ltb, List, [], ◌∷◌, map, length, get_or, take, replicate, ℤ, pos, negsuc, nat_abs, Ok, sym, ap, ◌∙◌, arith}
use lib.Signed.{lt_z, le_z}
use Rattle.std.proofs.lemmas.List.{get_or-take, get_or_append_left, get_or-map, length-append, length-map, length-replicate}
use Rattle.std.proofs.lemmas.Bool.{ltb-true, ltb-false, eqb-true, and_parts, cond-false, ne_eqb, or_parts, leb-false}
use Rattle.std.proofs.lemmas.Bool.Decides.{nat_tests}
use Rattle.measured.specs.Judged.{ordinates_judged, row_judged, seal_judged, rises_at, path_judged, header_judged, laid_paths}
use Rattle.measured.specs.Laid.{Laid}
use Rattle.measured.specs.Rows.{Filled, Ranged, place_of, ordinates_of}
use Rattle.measured.specs.declared.row.Row.{Row}
use Rattle.surface.specs.Verdict.{each_judged}
use Rattle.surface.specs.declared.fault.SurfaceFault.TheVariants.{Ordinate, Place, Short, Counts}
use Rattle.surface.proofs.Counts.{slices_counted}
use Rattle.surface.proofs.Verdicts.{passed, passed_on, passed_both, each_passed}

ordinates_fine : (line f : ℕ) (vs : List ℤ) (x : Unit {0}) → Ok x ≡ ordinates_judged line f vs → (i : ℕ) → nat_abs (get_or vs i (pos 0)) ≤ 100000
ordinates_fine line f [] x e i = omega arith
ordinates_fine line f (v ∷ vs) x e zero = ltb-false 100000 (nat_abs v) (passed (ltb 100000 (nat_abs v)) x (Ordinate line f) _ e).0
ordinates_fine line f (v ∷ vs) x e (suc i) = ordinates_fine line (f + 1) vs x (passed (ltb 100000 (nat_abs v)) x (Ordinate line f) _ e).1 i

module _ (m : ℕ) (rs : List Row) (t : ℕ) (x : Unit {0}) (e : Ok x ≡ each_judged (row_judged m rs) 0 t) where
  row_at : (k : ℕ) → k < t → Ok x ≡ row_judged m rs k
  row_at = each_passed (row_judged m rs) t x e

  parts : (k : ℕ) → k < t → ((rises_at rs k && ltb (place_of rs k) 200000) ≡ true) × (Ok x ≡ ordinates_judged (k + 2) 2 (take m (ordinates_of rs k)))
  parts k h = passed_on (rises_at rs k && ltb (place_of rs k) 200000) x (Place (k + 2) 1) _ (row_at k h)

  ends : (k : ℕ) → k < t → place_of rs k < 200000
  ends k h = ltb-true (place_of rs k) 200000 (and_parts (rises_at rs k) _ (parts k h).0).1

  begins : 0 < t → place_of rs 0 ≡ 0
  begins h = eqb-true (place_of rs 0) 0 (and_parts (rises_at rs 0) _ (parts 0 h).0).0

  rises : (k : ℕ) → k + 1 < t → place_of rs k < place_of rs (k + 1)
  rises k h =
      let up = (and_parts (rises_at rs (k + 1)) _ (parts (k + 1) h).0).0 in
      let off : eqb (k + 1) 0 ≡ false = ne_eqb (k + 1) 0 (λ z. omega arith) in
      let lt = ltb-true (place_of rs (k + 1 - 1)) (place_of rs (k + 1)) (sym (cond-false (eqb (k + 1) 0) (eqb (place_of rs (k + 1)) 0) _ off) ∙ up) in
      let same : place_of rs (k + 1 - 1) ≡ place_of rs k = ap (place_of rs) (omega arith) in
      omega arith

  ranged : Ranged m t rs
  ranged i k p q = simp get_or-take at (ordinates_fine (k + 2) 2 (take m (ordinates_of rs k)) x (parts k q).1 i)

pub seal_sound : (m : ℕ) (rs : List Row) (t : ℕ) (x : Unit {0}) → t ≤ 64 → Ok x ≡ seal_judged m rs t → Filled t rs × Ranged m t rs
seal_sound m rs t x few e =
    let a = passed (ltb (length rs) 64) x (Short 0) _ e in
    let b = passed_both (each_judged (row_judged m rs) 0 t) _ x a.1 in
    let c = passed (ltb t 2) x (Counts 0 0) _ b.1 in
    let long = ltb-false (length rs) 64 a.0 in
    let some = ltb-false t 2 c.0 in
    (((some, few, omega arith, begins m rs t x b.0 (omega arith)), rises m rs t x b.0, ends m rs t x b.0), ranged m rs t x b.0)

-- ---- a header
on_deck : (n p : ℤ) → lt_z p (pos 0) ≡ false → le_z n p ≡ false → nat_abs p < nat_abs n
on_deck (pos n) (pos p) low e = leb-false n p e
on_deck (negsuc n) (pos p) low e = absurd (grind arith)
on_deck n (negsuc p) low e = absurd (grind arith)

risen : (p q : ℤ) → lt_z p (pos 0) ≡ false → lt_z q (pos 0) ≡ false → le_z q p ≡ false → nat_abs p < nat_abs q
risen p (pos q) low high e = on_deck (pos q) p low e
risen p (negsuc q) low high e = absurd (grind arith)

module _ (n : ℤ) (ps : List ℤ) (x : Unit {0}) (e : Ok x ≡ header_judged n ps) where
  counts : ((lt_z n (pos 60) || (lt_z (pos 300) n || (ltb (length ps) 1 || ltb 8 (length ps)))) ≡ false) × (Ok x ≡ each_judged (path_judged n ps) 0 (length ps))
  counts = passed _ x (Counts 1 0) _ e

  slices : (pos (nat_abs n) ≡ n) × (60 ≤ nat_abs n) × (nat_abs n ≤ 300)
  slices =
      let b = or_parts (lt_z n (pos 60)) _ counts.0 in
      slices_counted n b.0 (or_parts (lt_z (pos 300) n) _ b.1).0

  pub paths_counted : (1 ≤ length ps) × (length ps ≤ 8)
  paths_counted =
      let b = (or_parts (lt_z (pos 300) n) _ (or_parts (lt_z n (pos 60)) _ counts.0).1).1 in
      let c = or_parts (ltb (length ps) 1) _ b in
      (ltb-false (length ps) 1 c.0, ltb-false 8 (length ps) c.1)

  path_passed : (i : ℕ) → i < length ps → (lt_z (get_or ps i (pos 0)) (pos 0) ≡ false) × (le_z n (get_or ps i (pos 0)) ≡ false) × ((ltb 0 i && le_z (get_or ps i (pos 0)) (get_or ps (i - 1) (pos 0))) ≡ false)
  path_passed i h =
      let a = (passed _ x (Counts 1 (i + 2)) (Ok tt) (each_passed (path_judged n ps) (length ps) x counts.1 i h)).0 in
      let b = or_parts (lt_z (get_or ps i (pos 0)) (pos 0)) _ a in
      let c = or_parts (le_z n (get_or ps i (pos 0))) _ b.1 in
      (b.0, c.0, c.1)

  path_low : (i : ℕ) → i < length ps → nat_abs (get_or ps i (pos 0)) < nat_abs n
  path_low i h = let a = path_passed i h in on_deck n (get_or ps i (pos 0)) a.0 a.1

  path_rises : (i : ℕ) → i + 1 < length ps → nat_abs (get_or ps i (pos 0)) < nat_abs (get_or ps (i + 1) (pos 0))
  path_rises i h =
      let a = path_passed i (omega arith) in
      let b = path_passed (i + 1) h in
      let same : get_or ps (i + 1 - 1) (pos 0) ≡ get_or ps i (pos 0) = ap (λ k. get_or ps k (pos 0)) (omega arith) in
      let up : le_z (get_or ps (i + 1) (pos 0)) (get_or ps (i + 1 - 1) (pos 0)) ≡ false = grind (arith, nat_tests) in
      risen (get_or ps i (pos 0)) (get_or ps (i + 1) (pos 0)) a.0 b.0 (rw same at up)

  -- path i as it is laid
  at : (i : ℕ) → i < length ps → get_or (laid_paths ps) i 0 ≡ nat_abs (get_or ps i (pos 0))
  at i h =
      let k : i < length (map nat_abs ps) = rw length-map h in
      get_or_append_left (map nat_abs ps) (replicate (8 - length ps) 0) 0 i k ∙ get_or-map nat_abs ps i (pos 0) 0 h

  pub header_sound : Laid (nat_abs n) (length ps) (laid_paths ps)
  header_sound =
      let s = slices in
      let m = paths_counted in
      let long : length (laid_paths ps) ≡ length ps + (8 - length ps) = simp (length-append, length-map, length-replicate) in (
        (s.1, s.2, m.0, m.1, omega arith),
        (λ i h. let k = path_rises i h in let a = at i (omega arith) in let b = at (i + 1) h in omega arith),
        (λ i h. let k = path_low i h in let a = at i h in omega arith),
      )
