-- Lanes, wherever they lie, are parts from the left.
use Rattle.std.proofs.Common.{◌≡◌, ℕ, zero, suc, ◌+◌, ◌-◌, ◌/◌, ◌%◌, ◌<◌, ◌≤◌, cond, leb, ◌⊎◌, List, [], ◌∷◌, ◌++◌, replicate, sym, refl, ap, ◌∙◌, subst, ap₂, inl, inr, ⊎_elim, arith}
use Rattle.std.proofs.lemmas.Bool.{cases_lt, cases_eq, cond-true, cond-false, le-leb, lt-leb}
use Rattle.algebra.specs.Sums.{total}
use Rattle.algebra.proofs.Sums.{total_cong}
use Rattle.model.specs.Lanes.{breadth, lanes_in, lane_slices}
use Rattle.model.specs.Owners.{number_of}
use Rattle.model.specs.declared.lanes.Carriageway.{Carriageway}
use Rattle.model.specs.declared.owners.Owner.{Owner}
use Rattle.model.specs.declared.owners.Owner.TheVariants.{Remaining, Lane1, Lane2, Lane3, Other}
use Rattle.placing.specs.Placing.{width, span, owners, times, hit, lane_set}
use Rattle.statement.specs.Lanes.{Starts, Numbered, Laid, lane_at, owner_of, owner_at, listed}
use Rattle.statement.specs.Parts.{part_sum, SameLanes, HoldsAll, LanesCut}
use Rattle.statement.proofs.Found.{lane_some, listed_cong, listed_run, lane_part, lane_holds, lane_found, lane_low}

-- a lane that begins at slice j, or none
find_lane : (starts : Starts) (j n : ℕ) → ((i : ℕ) × (1 ≤ i) × (i ≤ n) × (starts i ≡ j)) ⊎ ((i : ℕ) → 1 ≤ i → i ≤ n → starts i ≡ j → ⊥)
find_lane starts j zero = inr (λ i h l e. omega arith)
find_lane starts j (suc n) = ⊎_elim
    (λ (e : starts (suc n) ≡ j). inl (suc n, omega arith, omega arith, e))
    (λ (e : starts (suc n) ≡ j → ⊥). ⊎_elim
    (λ (r : (i : ℕ) × (1 ≤ i) × (i ≤ n) × (starts i ≡ j)). inl (r.0, r.1, omega (arith, r.2), r.3))
    (λ (r : (i : ℕ) → 1 ≤ i → i ≤ n → starts i ≡ j → ⊥). inr (λ i h l q. ⊎_elim (λ (z : i ≡ suc n). e (ap starts (sym z) ∙ q)) (λ (z : i ≡ suc n → ⊥). r i h (omega arith) q) (cases_eq i (suc n))))
    (find_lane starts j n))
    (cases_eq (starts (suc n)) j)

same_leb : (a b s : ℕ) → (a ≤ s → b ≤ s) → (b ≤ s → a ≤ s) → leb a s ≡ leb b s
same_leb a b s f h = ⊎_elim (λ (l : s < a). lt-leb a s l ∙ sym (⊎_elim (λ (m : s < b). lt-leb b s m) (λ (m : b ≤ s). absurd (omega (arith, h m))) (cases_lt s b))) (λ (l : a ≤ s). le-leb a s l ∙ sym (le-leb b s (f l))) (cases_lt s a)

-- of the lanes from j on, one begins there and the others after it
pick : (starts : Starts) (c : ℕ → ℕ) (j e i n : ℕ) → 1 ≤ i → i ≤ n → starts i ≡ j → j < e → ((h : ℕ) → 1 ≤ h → h ≤ n → (h ≡ i → ⊥) → (j ≤ starts h → e ≤ starts h))
    → total n (λ h. cond (leb j (starts (suc h))) (c (suc h)) 0) ≡ c i + total n (λ h. cond (leb e (starts (suc h))) (c (suc h)) 0)
pick starts c j e i zero h l q m far = absurd (omega arith)
pick starts c j e i (suc n) h l q m far = ⊎_elim
    (λ (z : i ≡ suc n).
    let s : starts i ≡ starts (suc n) = ap starts z in
    let a = cond-true (leb j (starts (suc n))) (c (suc n)) 0 (le-leb _ _ (omega arith)) in
    let b = cond-false (leb e (starts (suc n))) (c (suc n)) 0 (lt-leb _ _ (omega arith)) in
    let r = total_cong n (λ h. cond (leb j (starts (suc h))) (c (suc h)) 0) (λ h. cond (leb e (starts (suc h))) (c (suc h)) 0)
    (λ h o. ap (λ t. cond t (c (suc h)) 0) (same_leb j e (starts (suc h)) (far (suc h) (omega arith) (omega arith) (λ y. omega arith)) (λ y. omega arith))) in
    let cz : c i ≡ c (suc n) = ap c z in
    omega (arith, a, b, r, cz))
    (λ (z : i ≡ suc n → ⊥).
    let r = pick starts c j e i n h (omega arith) q m (λ g o u. far g o (omega arith)) in
    let a = ap (λ t. cond t (c (suc n)) 0) (same_leb j e (starts (suc n)) (far (suc n) (omega arith) (omega arith) (λ y. z (sym y))) (λ y. omega arith)) in
    omega (arith, r, a))
    (cases_eq i (suc n))

shift : (s l g j : ℕ) → s ≡ j → s + l ≤ g → j + l ≤ g
shift s l g j e h = omega arith

behind : (g l s j : ℕ) → 1 ≤ l → s ≡ j → g + l ≤ s → j ≤ g → ⊥
behind g l s j o e h q = omega arith

after : (j s : ℕ) → j ≤ s → (s ≡ j → ⊥) → j + 1 ≤ s
after j s h ne = ⊎_elim (λ (e : s ≡ j). absurd (ne e)) (λ (e : s ≡ j → ⊥). omega arith) (cases_eq s j)

at_once : (j x : ℕ) → x < 1 → j + x ≡ j
at_once j x h = omega arith

pred : (i : ℕ) → 1 ≤ i → suc (i - 1) ≡ i
pred i h = omega arith

too_far : (a b : ℕ) → a ≤ b → b < a → ⊥
too_far a b h l = omega arith

level : (a b : ℕ) → a ≤ b → b ≤ a → a ≡ b
level a b h l = omega arith

plain : (a : ℕ) → 0 + a ≡ a
plain a = omega arith

none_left : (b j : ℕ) → b ≤ j → 0 ≡ b - j
none_left b j h = omega arith

no_lanes : (starts : Starts) (c : ℕ → ℕ) (j n : ℕ) → ((i : ℕ) → 1 ≤ i → i ≤ n → starts i < j) → total n (λ i. cond (leb j (starts (suc i))) (c (suc i)) 0) ≡ 0
no_lanes starts c j zero h = refl
no_lanes starts c j (suc n) h =
    let a = cond-false (leb j (starts (suc n))) (c (suc n)) 0 (lt-leb _ _ (h (suc n) (omega arith) (omega arith))) in
    let b = no_lanes starts c j n (λ i x y. h i x (omega arith)) in
    omega (arith, a, b)

-- the parts from slice j on that the lanes make
record Cut (k : Carriageway) (starts : Starts) (j : ℕ) : Type 0 where
  parts : List Owner
  fill : j + span (lane_slices k.width) parts ≡ breadth k
  numbers : owners (lane_slices k.width) parts ≡ listed (breadth k - j) (λ x. number_of (owner_at k starts (j + x)))
  sums : (c : Owner → ℕ → ℕ) → ((x : ℕ) → c Remaining x ≡ 0)
      → part_sum c (lane_slices k.width) j parts ≡ total (lanes_in k.width) (λ i. cond (leb j (starts (suc i))) (c (owner_of (suc i)) (starts (suc i))) 0)

module _ (k : Carriageway) (starts : Starts) (laid : Laid k starts) where
  abbrev l : ℕ
  l = lane_slices k.width

  abbrev n : ℕ
  n = lanes_in k.width

  -- no lane lies across the left edge of slice j
  abbrev Clear : ℕ → Type 0
  Clear j = (i : ℕ) → Numbered k i → (starts i + l ≤ j) ⊎ (j ≤ starts i)

  apart_from : (i h : ℕ) → Numbered k i → Numbered k h → (h ≡ i → ⊥) → (starts i + l ≤ starts h) ⊎ (starts h + l ≤ starts i)
  apart_from i h a b ne = ⊎_elim (λ (o : i < h). laid.apart i h a b o) (λ (o : h ≤ i). ⊎_elim (λ (x : starts h + l ≤ starts i). inr x) (λ (x : starts i + l ≤ starts h). inl x) (laid.apart h i b a (omega arith))) (cases_lt i h)

  found_at : (i x : ℕ) → Numbered k i → starts i ≤ x → x < starts i + l → lane_at l starts n x ≡ i
  found_at i x a lo hi = lane_found l starts n (λ a b f m o. laid.apart a b (f, omega arith) (omega arith, m) o) x i a.0 a.1 lo hi

  empty_at : (j : ℕ) → Clear j → ((i : ℕ) → 1 ≤ i → i ≤ n → starts i ≡ j → ⊥) → lane_at l starts n j ≡ 0
  empty_at j clear none = ⊎_elim
      (λ (o : 0 < lane_at l starts n j).
      let i = lane_at l starts n j in
      let h = lane_holds l starts n j i (omega arith) refl in
      let a : Numbered k i = (omega arith, lane_low l starts j n) in
      absurd (⊎_elim (λ (x : starts i + l ≤ j). too_far (starts i + l) j x h.1) (λ (x : j ≤ starts i). none i a.0 a.1 (level (starts i) j h.0 x)) (clear i a)))
      (λ (o : lane_at l starts n j ≤ 0). omega arith)
      (cases_lt 0 (lane_at l starts n j))

  abbrev F : ℕ → ℕ → ℕ
  F j x = number_of (owner_of (lane_at l starts n (j + x)))

  shifted : (j w : ℕ) → listed (breadth k - j - w) (λ x. F j (w + x)) ≡ listed (breadth k - (j + w)) (F (j + w))
  shifted j w = ap (λ m. listed m (λ x. F j (w + x))) (omega arith) ∙ listed_cong (breadth k - (j + w)) _ _ (λ x h. ap (λ y. number_of (owner_of (lane_at l starts n y))) (omega arith))

  done : (j : ℕ) → breadth k ≤ j → j ≤ breadth k → Cut k starts j
  done j enough in-it = record {
    parts = [];
    fill = omega arith;
    numbers = ap (λ m. listed m (F j)) (none_left (breadth k) j enough);
    sums = λ c z. sym (no_lanes starts (λ i. c (owner_of i) (starts i)) j n (λ i a b. let m = laid.inside i (a, b) in let s = lane_some k.width in omega arith));
  }

  cut_lane : (j i : ℕ) → suc i ≤ n → starts (suc i) ≡ j → Cut k starts (j + l) → Cut k starts j
  cut_lane j i h e rest =
      let s = lane_some k.width in
      let a : Numbered k (suc i) = (omega arith, h) in
      let m = laid.inside (suc i) a in
      let p = owner_of (suc i) in
      let w : width l p ≡ l = lane_part l i in
      record {
        parts = p ∷ rest.parts;
        fill = omega (arith, rest.fill, w);
        numbers = ap (λ v. replicate v (number_of p) ++ owners l rest.parts) w ∙ ap (λ xs. replicate l (number_of p) ++ xs) (rest.numbers ∙ sym (shifted j l))
            ∙ sym (listed_run l (breadth k - j) (number_of p) (F j) (λ x o. ap (λ y. number_of (owner_of y)) (found_at (suc i) (j + x) a (omega arith) (omega arith))) (omega arith));
        sums = λ c z. ap (λ v. c p j + part_sum c l (j + v) rest.parts) w ∙ ap₂ (λ (x y : ℕ). x + y) (ap (c p) (sym e)) (rest.sums c z)
            ∙ sym (pick starts (λ h. c (owner_of h) (starts h)) j (j + l) (suc i) n (omega arith) h e (omega arith)
            (λ g o u ne q. ⊎_elim (λ (x : starts (suc i) + l ≤ starts g). shift (starts (suc i)) l (starts g) j e x) (λ (x : starts g + l ≤ starts (suc i)). absurd (behind (starts g) l (starts (suc i)) j s e x q)) (apart_from (suc i) g a (o, u) ne)));
      }

  cut_slice : (j : ℕ) → j < breadth k → Clear j → ((i : ℕ) → 1 ≤ i → i ≤ n → starts i ≡ j → ⊥) → Cut k starts (j + 1) → Cut k starts j
  cut_slice j h clear none rest = record {
    parts = Remaining ∷ rest.parts;
    fill = omega (arith, rest.fill);
    numbers = ap (λ xs. replicate 1 0 ++ xs) (rest.numbers ∙ sym (shifted j 1))
        ∙ sym (listed_run 1 (breadth k - j) 0 (F j) (λ x o. ap (λ y. number_of (owner_of y)) (ap (λ y. lane_at l starts n y) (at_once j x o) ∙ empty_at j clear none)) (omega arith));
    sums = λ c z. ap₂ (λ (x y : ℕ). x + y) (z j) (rest.sums c z) ∙ plain _
        ∙ sym (total_cong n _ _ (λ i o. ap (λ t. cond t (c (owner_of (suc i)) (starts (suc i))) 0) (same_leb j (j + 1) (starts (suc i)) (λ y. after j (starts (suc i)) y (none (suc i) (omega arith) (omega arith))) (λ y. omega arith))));
  }

  cut : (f j : ℕ) → breadth k ≤ j + f → j ≤ breadth k → Clear j → Cut k starts j
  cut zero j enough in-it clear = done j (omega arith) in-it
  cut (suc f) j enough in-it clear = ⊎_elim
      (λ (b : j < breadth k). ⊎_elim
      (λ (r : (i : ℕ) × (1 ≤ i) × (i ≤ n) × (starts i ≡ j)).
      let i = r.0 - 1 in
      let z : suc i ≡ r.0 = pred r.0 r.1 in
      let e : starts (suc i) ≡ j = ap starts z ∙ r.3 in
      let h : suc i ≤ n = subst (λ y. y ≤ n) (sym z) r.2 in
      let a : Numbered k (suc i) = (omega arith, h) in
      let m = laid.inside (suc i) a in
      let s = lane_some k.width in
      cut_lane j i h e (cut f (j + l) (omega arith) (omega arith) (λ g o. ⊎_elim
      (λ (y : g ≡ suc i). inl (let q = ap starts y in omega arith))
      (λ (y : g ≡ suc i → ⊥). ⊎_elim (λ (x : starts (suc i) + l ≤ starts g). inr (shift (starts (suc i)) l (starts g) j e x)) (λ (x : starts g + l ≤ starts (suc i)). inl (omega arith)) (apart_from (suc i) g a o y))
      (cases_eq g (suc i)))))
      (λ (none : (i : ℕ) → 1 ≤ i → i ≤ n → starts i ≡ j → ⊥).
      cut_slice j b clear none (cut f (j + 1) (omega arith) (omega arith) (λ g o. ⊎_elim
      (λ (x : starts g + l ≤ j). inl (omega arith))
      (λ (x : j ≤ starts g). inr (after j (starts g) x (none g o.0 o.1)))
      (clear g o))))
      (find_lane starts j n))
      (λ (b : breadth k ≤ j). done j b in-it)
      (cases_lt j (breadth k))

-- ---- each lane once
times_sum : (k : Owner) (l j : ℕ) (ps : List Owner) → times k ps ≡ part_sum (λ p x. hit p k) l j ps
times_sum k l j [] = refl
times_sum k l j (p ∷ ps) = ap (λ y. hit p k + y) (times_sum k l (j + width l p) ps)

-- how many of the lanes up to n the owner k has
abbrev lanes_of : Owner → ℕ → ℕ
lanes_of k n = total n (λ i. hit (owner_of (suc i)) k)

firsts : (n : ℕ) → lanes_of Lane1 n ≡ lane_set n % 2
firsts zero = refl
firsts (suc zero) = refl
firsts (suc (suc zero)) = refl
firsts (suc (suc (suc zero))) = refl
firsts (suc (suc (suc (suc n)))) = omega (arith, firsts (suc (suc (suc n))))

seconds : (n : ℕ) → lanes_of Lane2 n ≡ lane_set n / 2 % 2
seconds zero = refl
seconds (suc zero) = refl
seconds (suc (suc zero)) = refl
seconds (suc (suc (suc zero))) = refl
seconds (suc (suc (suc (suc n)))) = omega (arith, seconds (suc (suc (suc n))))

thirds : (n : ℕ) → lanes_of Lane3 n ≡ lane_set n / 4 % 2
thirds zero = refl
thirds (suc zero) = refl
thirds (suc (suc zero)) = refl
thirds (suc (suc (suc zero))) = refl
thirds (suc (suc (suc (suc n)))) = omega (arith, thirds (suc (suc (suc n))))

rests : (n : ℕ) → lanes_of Other n ≡ n - 3
rests zero = refl
rests (suc zero) = refl
rests (suc (suc zero)) = refl
rests (suc (suc (suc zero))) = refl
rests (suc (suc (suc (suc n)))) = omega (arith, rests (suc (suc (suc n))))

pub holds_all : (k : Carriageway) (starts : Starts) (parts : List Owner) → SameLanes k starts parts → HoldsAll k parts
holds_all k starts parts s =
    let l = lane_slices k.width in
    let n = lanes_in k.width in
    record {
      first = times_sum Lane1 l 0 parts ∙ s.sums (λ p x. hit p Lane1) (λ j. refl) ∙ firsts n;
      second = times_sum Lane2 l 0 parts ∙ s.sums (λ p x. hit p Lane2) (λ j. refl) ∙ seconds n;
      third = times_sum Lane3 l 0 parts ∙ s.sums (λ p x. hit p Lane3) (λ j. refl) ∙ thirds n;
      others = times_sum Other l 0 parts ∙ s.sums (λ p x. hit p Other) (λ j. refl) ∙ rests n;
    }

from_cut : (k : Carriageway) (starts : Starts) (c : Cut k starts 0) → SameLanes k starts c.parts
from_cut k starts c = record {
  fill = omega (arith, c.fill);
  slices = c.numbers ∙ ap (λ b. listed b (λ x. number_of (owner_at k starts (0 + x)))) (whole_left (breadth k)) ∙ listed_cong (breadth k) _ _ (λ i h. ap (λ y. number_of (owner_at k starts y)) (plain i));
  sums = λ f z. c.sums f z ∙ total_cong (lanes_in k.width) _ _ (λ i h. cond-true (leb 0 (starts (suc i))) _ 0 (le-leb 0 (starts (suc i)) (omega arith)));
}
  where
    whole_left : (b : ℕ) → b - 0 ≡ b
    whole_left b = omega arith

pub lanes_cut : LanesCut
lanes_cut k starts laid =
    let c = cut k starts laid (breadth k) 0 (omega arith) (omega arith) (λ i o. inr (omega arith)) in
    let s = from_cut k starts c in
    (c.parts, s, holds_all k starts c.parts s)
