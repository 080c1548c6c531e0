-- Exact and rounded effects, part by part.
use Rattle.std.proofs.Common.{◌≡◌, ℕ, zero, suc, ◌+◌, ◌*◌, ◌<◌, ◌≤◌, leb, [], ◌∷◌, ℤ, pos, negsuc, Some, None, Option, sym, refl, ◌∙◌, subst, ⊎_elim, mul-le-mul_right, arith}
use lib.Signed.{≤ℤ_refl}
use Rattle.std.proofs.lemmas.Int.{ints}
use Rattle.std.proofs.lemmas.Bool.{cases_lt, cond-true, cond-false, le-leb, lt-leb}
use Rattle.algebra.specs.Frac.{Frac, ◌≤F◌, whole, ◌+F◌, ◌·F◌, ceil}
use Rattle.algebra.specs.Sums.{total, totalF}
use Rattle.algebra.proofs.Frac.{trans, adds, refl_≤, scales, join, split, regroup}
use Rattle.algebra.proofs.IntLaws.{*ℤ-mono}
use Rattle.algebra.proofs.Ring.{var, num, ◌:+◌, ◌:*◌, moved}
use Rattle.algebra.proofs.Round.{near}
use Rattle.algebra.proofs.Sums.{total_bound, total_near}
use Rattle.model.specs.Lanes.{breadth}
use Rattle.model.specs.Weights.{tandem_weight}
use Rattle.model.specs.declared.tandems.Tandem.{Tandem}
use Rattle.model.specs.declared.weights.Factors.{Factors}
use Rattle.model.specs.declared.weights.LoadKind.{LoadKind}
use Rattle.model.specs.declared.weights.LoadKind.TheVariants.{Characteristic, Frequent}
use Rattle.lines.specs.Lines.{Line, axles, Stands, Placed, IsTandem}
use Rattle.lines.specs.Areas.{area_of, loaded_on, changes_of}
use Rattle.lines.proofs.Areas.{is_area}
use Rattle.lines.proofs.Unique.{positive}
use Rattle.statement.specs.Lanes.{Starts, owner_of}
use Rattle.statement.specs.Effects.{Setting, lane_count, on_deck, tandem_share, uniform_share, lane_line, Place, whole_place, tandem_effect, stood, placed, handed_back}
use Rattle.statement.specs.Facts.{Bounded, Shown, Near}

-- ---- parts that are scaled and added
joined_near : (a b e c : ℕ) (F G : Frac) → whole (pos a) ≤F F +F whole (pos e) → whole (pos b) ≤F G +F whole (pos c) → whole (pos (a + b)) ≤F (F +F G) +F whole (pos (e + c))
joined_near a b e c F G h k =
    trans (split a b) (trans (adds h k) (trans (regroup F (whole (pos e)) G (whole (pos c))) (adds (refl_≤ (F +F G)) (join e c))))

scaled_bound : (k b : ℕ) (f : Frac) → f ≤F whole (pos b) → k ·F f ≤F whole (pos (k * b))
scaled_bound k b f h = trans (scales k f (whole (pos b)) h) (record { cross = omega (arith, ints) })

scaled_near : (k a e : ℕ) (f : Frac) → whole (pos a) ≤F f +F whole (pos e) → whole (pos (k * a)) ≤F (k ·F f) +F whole (pos (k * e))
scaled_near k a e f h =
    let ρ = pos a ∷ pos e ∷ f.num ∷ pos f.den ∷ pos k ∷ [] in
    let one = num (pos 1) in
    record {
      cross = moved ρ (var 0 :* (var 3 :* one) :* var 4) ((var 2 :* one :+ var 1 :* var 3) :* one :* var 4)
          (var 4 :* var 0 :* (var 3 :* one)) ((var 2 :* var 4 :* one :+ var 4 :* var 1 :* var 3) :* one) refl (*ℤ-mono k _ _ h.cross);
    }

unshared_near : (k a e : ℕ) (f : Frac) → k ≡ 0 → whole (pos (k * a)) ≤F (k ·F f) +F whole (pos (k * e))
unshared_near k a e f z =
    let ρ = pos a ∷ pos e ∷ f.num ∷ pos f.den ∷ [] in
    let one = num (pos 1) in
    let none = num (pos 0) in
    subst (λ i. whole (pos (i * a)) ≤F (i ·F f) +F whole (pos (i * e))) (sym z)
    (record {
      cross = moved ρ none none (none :* var 0 :* (var 3 :* one)) ((var 2 :* none :* one :+ none :* var 1 :* var 3) :* one) refl (≤ℤ_refl _);
    })

-- ---- every arrangement is at most what is counted
tandem_bound : (g : Setting) (x t : ℕ) (q : Option ℕ) (o : Option Place) → IsTandem (lane_line g x) t q → ((p : Place) → o ≡ Some p → Stands (lane_line g x) p.num p.den) → tandem_effect g x o ≤F whole (pos t)
tandem_bound g x t q None top stands = record { cross = omega (arith, ints) }
tandem_bound g x t q (Some p) top stands = top.bound p.num p.den (stands p refl)

pub bounded : Bounded
bounded g tandems known x permitted =
    trans (adds
    (total_bound (lane_count g) _ (λ i. tandem_share g (suc i) * (tandems (x.starts (suc i))).t) (λ i l.
    scaled_bound (tandem_share g (suc i)) _ _
    (tandem_bound g (x.starts (suc i)) _ _ (x.tandem (suc i)) (known (x.starts (suc i)) (permitted.laid.inside (suc i) (omega arith, omega arith))) (λ p e. permitted.stands (suc i) p (omega arith, omega arith) e))))
    (total_bound (breadth g.kerbs) _ (λ j. uniform_share g x.starts j * area_of g.surface (on_deck g j)) (λ j l.
    scaled_bound (uniform_share g x.starts j) _ _ ((is_area g.surface (on_deck g j)).bound (x.load j)))))
    (join _ _)

-- ---- the arrangement handed back is permitted
pub none_some : {X Y : Type 0} (y : X) → None ≡ Some y → Y
none_some y e = let z : ◌≡◌ {A = ℕ} 0 1 = cc in absurd (omega arith)

pub some_is : {X : Type 0} (x y : X) → Some x ≡ Some y → x ≡ y
some_is x y e = cc

placed_stands : (d : Line) (o : Option ℕ) → Placed d o → (p : Place) → placed o ≡ Some p → Stands d p.num p.den
placed_stands d None rear p e = none_some p e
placed_stands d (Some r) rear p e =
    subst (λ q. Stands d q.num q.den) (some_is (whole_place r) p e) (record { some = omega arith; fits = omega (arith, rear.fits) })

pub shown : Shown
shown g tandems known starts laid = record {
  laid = laid;
  only = λ i n l. cond-false (leb i 3) _ None (lt-leb i 3 l);
  stands = λ i p n e. ⊎_elim
      (λ (l : 3 < i). none_some p (sym (cond-false (leb i 3) (placed (tandems (starts i)).place) None (lt-leb i 3 l)) ∙ e))
      (λ (l : i ≤ 3). placed_stands (lane_line g (starts i)) (tandems (starts i)).place (known (starts i) (laid.inside i n)).place p (sym (cond-true (leb i 3) (placed (tandems (starts i)).place) None (le-leb i 3 l)) ∙ e))
      (cases_lt 3 i);
}

-- ---- and within the allowance
-- the least whole number above a greatest fraction is less than 1 above it
least_by : (d : Line) (t n b : ℕ) (q : Option ℕ) (some : 0 < b) → IsTandem d t q → ((a c : ℕ) → Stands d a c → 10000 ·F axles d a c ≤F record { num = pos n; den = b; some = some })
    → whole (pos t) ≤F record { num = pos n; den = b; some = some } +F whole (pos 1)
least_by d t n b q some top all =
    let c = near n b some in
    let l = top.least (ceil n b) (λ a k s. trans (all a k s) (record { cross = omega (arith, ints, c) })) in
    let m = mul-le-mul_right b l in
    record { cross = omega (arith, ints, c, m) }

least_near : (d : Line) (t : ℕ) (q : Option ℕ) (f : Frac) → 0 < t → IsTandem d t q → ((a c : ℕ) → Stands d a c → 10000 ·F axles d a c ≤F f) → whole (pos t) ≤F f +F whole (pos 1)
least_near d t q f h top all = go f.num f.den f.some all
  where
    go : (n : ℤ) (b : ℕ) (some : 0 < b) → ((a c : ℕ) → Stands d a c → 10000 ·F axles d a c ≤F record { num = n; den = b; some = some }) → whole (pos t) ≤F record { num = n; den = b; some = some } +F whole (pos 1)
    go (pos n) b some all = least_by d t n b q some top all
    go (negsuc n) b some all = absurd (omega (arith, top.least 0 (λ a c s. trans (all a c s) (record { cross = omega (arith, ints) }))))

rear_near : (g : Setting) (x t : ℕ) (o : Option ℕ) → IsTandem (lane_line g x) t o → whole (pos t) ≤F tandem_effect g x (placed o) +F whole (pos (stood o))
rear_near g x t None top = record { cross = omega (arith, ints, positive.none (lane_line g x) t top) }
rear_near g x t (Some r) top =
    least_near (lane_line g x) t (Some r) (10000 ·F axles (lane_line g x) r 1) (positive.some (lane_line g x) t r top) top
    (λ a c s. scales 10000 _ _ (top.place.most a c s))

-- no other lane has a tandem's weight
pub other_share : (kind : LoadKind) (f : Factors) (i : ℕ) → 3 < i → tandem_weight kind f (owner_of i) ≡ 0
other_share kind f zero l = absurd (omega arith)
other_share kind f (suc zero) l = absurd (omega arith)
other_share kind f (suc (suc zero)) l = absurd (omega arith)
other_share kind f (suc (suc (suc zero))) l = absurd (omega arith)
other_share Characteristic f (suc (suc (suc (suc i)))) l = refl
other_share Frequent f (suc (suc (suc (suc i)))) l = refl

handed_near : (g : Setting) (tandems : ℕ → Tandem) (starts : Starts) (i : ℕ) → IsTandem (lane_line g (starts i)) (tandems (starts i)).t (tandems (starts i)).place
    → whole (pos (tandem_share g i * (tandems (starts i)).t)) ≤F (tandem_share g i ·F tandem_effect g (starts i) ((handed_back g tandems starts).tandem i)) +F whole (pos (tandem_share g i * stood (tandems (starts i)).place))
handed_near g tandems starts i known = ⊎_elim
    (λ (l : 3 < i). unshared_near (tandem_share g i) _ _ _ (other_share g.kind g.factors i l))
    (λ (l : i ≤ 3). scaled_near (tandem_share g i) _ _ _
    (subst (λ o. whole (pos (tandems (starts i)).t) ≤F tandem_effect g (starts i) o +F whole (pos (stood (tandems (starts i)).place)))
    (sym (cond-true (leb i 3) (placed (tandems (starts i)).place) None (le-leb i 3 l)))
    (rear_near g (starts i) _ _ known)))
    (cases_lt 3 i)

pub nearby : Near
nearby g tandems known starts laid =
    let x = handed_back g tandems starts in
    let s = g.surface in
    joined_near
    (total (lane_count g) (λ i. tandem_share g (suc i) * (tandems (starts (suc i))).t)) (total (breadth g.kerbs) (λ j. uniform_share g starts j * area_of s (on_deck g j)))
    (total (lane_count g) (λ i. tandem_share g (suc i) * stood (tandems (starts (suc i))).place)) (total (breadth g.kerbs) (λ j. uniform_share g starts j * changes_of s (on_deck g j)))
    (totalF (lane_count g) (λ i. tandem_share g (suc i) ·F tandem_effect g (starts (suc i)) (x.tandem (suc i)))) (totalF (breadth g.kerbs) (λ j. uniform_share g starts j ·F loaded_on s (on_deck g j) (x.load j)))
    (total_near (lane_count g) _ _ _ (λ i l.
    handed_near g tandems starts (suc i) (known (starts (suc i)) (laid.inside (suc i) (omega arith, omega arith)))))
    (total_near (breadth g.kerbs) _ _ _ (λ j l.
    scaled_near (uniform_share g starts j) (area_of s (on_deck g j)) (changes_of s (on_deck g j)) (loaded_on s (on_deck g j) (x.load j)) (is_area s (on_deck g j)).near))
