-- T and place of every lane on the even deck.
use Rattle.std.proofs.Common.{◌≡◌, ℕ, ◌+◌, ◌-◌, ◌*◌, ◌<◌, ◌≤◌, max, leb, pos, ◌≤ℤ◌, Some, sym, ap, ◌∙◌, subst, ⊎_elim, arith}
use Rattle.std.proofs.lemmas.Int.{ints}
use Rattle.std.proofs.lemmas.Bool.{cases_lt, cond-true, cond-false, le-leb, lt-leb}
use Rattle.algebra.specs.Frac.{Frac, Same, ◌≤F◌, whole}
use Rattle.algebra.proofs.Frac.{trans, adds, scales}
use Rattle.lines.specs.Axles.{axle_line}
use Rattle.lines.specs.Lines.{Line, on, value_at, axles, Stands, IsTandem}
use Rattle.decks.specs.Decks.{even_deck}

abbrev simple : ℕ → (b : ℕ) → 0 < b → Frac
simple n b p = record { num = pos n; den = b; some = p }

le_pos : (m n : ℕ) → m ≡ n → (pos m ≤ℤ pos n) × (pos n ≤ℤ pos m)
le_pos m n e = (omega (arith, ints), omega (arith, ints))

rise_num : (a d : ℕ) → 0 < d → (0 * (10000 * d - a) + 20000 * (a - 0 * d)) * d ≡ 2 * a * max 1 (d * 10000)
rise_num a d h =
    let m : max 1 (d * 10000) ≡ d * 10000 = omega arith in
    let s : 0 * (10000 * d - a) + 20000 * (a - 0 * d) ≡ 20000 * a = omega arith in
    ap (λ i. i * d) s ∙ (omega arith) ∙ sym (ap (λ i. 2 * a * i) m)

fall_num : (a d : ℕ) → 0 < d → (20000 * (20000 * d - a) + 0 * (a - 10000 * d)) * d ≡ 2 * (20000 * d - a) * max 1 (d * 10000)
fall_num a d h =
    let m : max 1 (d * 10000) ≡ d * 10000 = omega arith in
    let b = 20000 * d - a in
    let s : 20000 * (20000 * d - a) + 0 * (a - 10000 * d) ≡ 20000 * b = omega arith in
    ap (λ i. i * d) s ∙ (twice b d) ∙ sym (ap (λ i. 2 * b * i) m)
  where
    twice : (b d : ℕ) → 20000 * b * d ≡ 2 * b * (d * 10000)
    twice b d = omega arith

module _ (n x l : ℕ) where
  abbrev line : Line
  line = axle_line (even_deck n) x l

  rises : (a b : ℕ) (p : 0 < b) → a < 10000 * b → Same (value_at line a b) (simple (2 * a) b p)
  rises a b p h =
      let e = le_pos _ _ (rise_num a b p) in
      subst (λ i. Same (on line i a b) (simple (2 * a) b p)) (sym (cond-false (leb (10000 * b) a) 1 0 (lt-leb _ _ h)))
      (record { cross = e.0 }, record { cross = e.1 })

  falls : (a b : ℕ) (p : 0 < b) → 10000 * b ≤ a → a ≤ 20000 * b → Same (value_at line a b) (simple (2 * (20000 * b - a)) b p)
  falls a b p h k =
      let e = le_pos _ _ (fall_num a b p) in
      subst (λ i. Same (on line i a b) (simple (2 * (20000 * b - a)) b p)) (sym (cond-true (leb (10000 * b) a) 1 0 (le-leb _ _ h)))
      (record { cross = e.0 }, record { cross = e.1 })

  -- both axles, as a number of parts of the place's
  record Summed (a b : ℕ) (p : 0 < b) : Type 0 where
    parts : ℕ
    same : Same (axles line a b) (simple parts b p)
    most : parts ≤ 37600 * b
    before : a < 8800 * b → parts < 37600 * b

  summed_by : (a b m k : ℕ) (p : 0 < b) → Same (value_at line a b) (simple m b p) → Same (value_at line (a + 1200 * b) b) (simple k b p) → m + k ≤ 37600 * b → (a < 8800 * b → m + k < 37600 * b) → Summed a b p
  summed_by a b m k p s t u v = record {
    parts = m + k;
    same = (trans (adds s.0 t.0) (record { cross = (le_pos _ _ (one m k b)).0 }), trans (record { cross = (le_pos _ _ (one m k b)).1 }) (adds s.1 t.1));
    most = u;
    before = v;
  }
    where
      one : (m k d : ℕ) → (m * d + k * d) * d ≡ (m + k) * (d * d)
      one m k d = omega arith

  summed : (a b : ℕ) → (s : Stands line a b) → Summed a b s.some
  summed a b s =
      let p = s.some in
      let f = s.fits in
      ⊎_elim
      (λ (l : a < 10000 * b). ⊎_elim
      (λ (k : a + 1200 * b < 10000 * b). summed_by a b (2 * a) (2 * (a + 1200 * b)) p (rises a b p l) (rises (a + 1200 * b) b p k) (omega arith) (λ v. omega arith))
      (λ (k : 10000 * b ≤ a + 1200 * b). summed_by a b (2 * a) (2 * (20000 * b - (a + 1200 * b))) p (rises a b p l) (falls (a + 1200 * b) b p k f) (omega arith) (λ v. omega arith))
      (cases_lt (a + 1200 * b) (10000 * b)))
      (λ (l : 10000 * b ≤ a). summed_by a b (2 * (20000 * b - a)) (2 * (20000 * b - (a + 1200 * b))) p (falls a b p l (omega arith)) (falls (a + 1200 * b) b p (omega arith) f) (omega arith) (λ v. omega arith))
      (cases_lt a (10000 * b))

  greatest : (a b : ℕ) → Stands line a b → axles line a b ≤F whole (pos 37600)
  greatest a b s = let m = summed a b s in trans m.same.0 (record { cross = omega (arith, ints, m.most) })

  reached : whole (pos 37600) ≤F axles line 8800 1
  reached = record { cross = omega (arith, ints) }

  room : Stands line 8800 1
  room = record { some = omega arith; fits = omega arith }

  pub tandem : IsTandem line 376000000 (Some 8800)
  tandem = record {
    place = record {
      fits = omega arith;
      most = λ a b s. trans (greatest a b s) reached;
      first = λ a b s l h.
          let m = summed a b s in
          let c = (trans (trans reached h) m.same.0).cross in
          let e = m.before l in
          omega (arith, ints, c, e);
      positive = λ h. let c = (trans reached h).cross in omega (arith, ints, c);
    };
    bound = λ a b s. trans (scales 10000 _ _ (greatest a b s)) (record { cross = omega (arith, ints) });
    least = λ u all. let r = (trans (scales 10000 _ _ reached) (all 8800 1 room)).cross in omega (arith, ints, r);
  }
