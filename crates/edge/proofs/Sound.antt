-- What the verdict passes makes a lawful edge surface.
use Rattle.std.proofs.Common.{◌≡◌, ℕ, ◌+◌, ◌<◌, ◌≤◌, true, false, cond, ◌||◌, eqb, ltb, List, length, ℤ, pos, nat_abs, Ok, Err, ap, ◌∙◌, arith}
use lib.Signed.{lt_z, non_neg}
use Rattle.std.proofs.lemmas.Bool.{ltb-false, or_parts, cond-false, ne_eqb}
use Rattle.surface.specs.Stations.{place_fits}
use Rattle.surface.specs.Verdict.{and_then, each_judged}
use Rattle.surface.specs.declared.fault.SurfaceFault.TheVariants.{Counts, Place, Ordinate}
use Rattle.surface.proofs.Counts.{slices_counted, place_natural, place_low, place_first, place_risen}
use Rattle.surface.proofs.Verdicts.{passed, passed_on, passed_both, each_passed}
use Rattle.edge.specs.Edges.{Lined, Natural, Leaning, place_at, ordinate_at}
use Rattle.edge.specs.Judged.{edge_judged, station_judged, place_before}
use Rattle.edge.specs.declared.station.Station.{Station}

module _ (n f g : ℤ) (ss : List Station) (x : Unit {0}) (e : Ok x ≡ edge_judged n f g ss) where
  counts : ((lt_z n (pos 60) || (lt_z (pos 300) n || (ltb (length ss) 2 || ltb 64 (length ss)))) ≡ false) × (Ok x ≡ and_then (each_judged (station_judged ss) 0 (length ss)) (cond (ltb 2000 (nat_abs f) || ltb 2000 (nat_abs g)) (Err (Ordinate 0 0)) (Ok tt)))
  counts = passed _ x (Counts 0 0) _ e

  line : (Ok x ≡ each_judged (station_judged ss) 0 (length ss)) × (Ok x ≡ cond (ltb 2000 (nat_abs f) || ltb 2000 (nat_abs g)) (Err (Ordinate 0 0)) (Ok tt))
  line = passed_both (each_judged (station_judged ss) 0 (length ss)) _ x counts.1

  factors : (nat_abs f ≤ 2000) × (nat_abs g ≤ 2000)
  factors =
      let a = or_parts (ltb 2000 (nat_abs f)) _ (passed _ x (Ordinate 0 0) (Ok tt) line.1).0 in
      (ltb-false 2000 (nat_abs f) a.0, ltb-false 2000 (nat_abs g) a.1)

  station : (k : ℕ) → k < length ss → (place_fits k (place_before ss k) (place_at ss k) ≡ true) × (nat_abs (ordinate_at ss k) ≤ 50000)
  station k h =
      let a = passed_on _ x (Place 0 0) _ (each_passed (station_judged ss) (length ss) x line.0 k h) in
      (a.0, ltb-false 50000 (nat_abs (ordinate_at ss k)) (passed _ x (Ordinate 0 0) (Ok tt) a.1).0)

  pub slices : (pos (nat_abs n) ≡ n) × (60 ≤ nat_abs n) × (nat_abs n ≤ 300)
  slices =
      let b = or_parts (lt_z n (pos 60)) _ counts.0 in
      slices_counted n b.0 (or_parts (lt_z (pos 300) n) _ b.1).0

  stations : (2 ≤ length ss) × (length ss ≤ 64)
  stations =
      let b = (or_parts (lt_z (pos 300) n) _ (or_parts (lt_z n (pos 60)) _ counts.0).1).1 in
      let c = or_parts (ltb (length ss) 2) _ b in
      (ltb-false (length ss) 2 c.0, ltb-false 64 (length ss) c.1)

  pub natural : Natural ss
  natural k h = place_natural k (place_before ss k) (place_at ss k) (station k h).0

  rises : (k : ℕ) → k + 1 < length ss → nat_abs (place_at ss k) < nat_abs (place_at ss (k + 1))
  rises k h =
      let off : eqb (k + 1) 0 ≡ false = ne_eqb (k + 1) 0 (λ z. omega arith) in
      let back : place_before ss (k + 1) ≡ place_at ss k = cond-false (eqb (k + 1) 0) (pos 0) _ off ∙ ap (place_at ss) (omega arith) in
      let fits = (station (k + 1) h).0 in
      let up = place_risen (k + 1) (place_before ss (k + 1)) (place_at ss (k + 1)) fits (λ z. omega arith) (ap non_neg back ∙ natural k (omega arith)) in
      omega (arith, ap nat_abs back)

  pub lined : Lined (nat_abs n) ss
  lined =
      let s = slices in
      let m = stations in (
        (s.1, s.2, m.0, m.1, place_first 0 (pos 0) (place_at ss 0) (station 0 (omega arith)).0 (omega arith)),
        rises,
        (λ k h. place_low k (place_before ss k) (place_at ss k) (station k h).0),
      )

  pub leaning : Leaning f g ss
  leaning = (factors.0, factors.1, λ k h. (station k h).1)
