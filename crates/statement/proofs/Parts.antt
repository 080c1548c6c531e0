-- Parts from the left that hold every lane once give lanes that are laid.
use Rattle.std.proofs.Common.{◌≡◌, ℕ, zero, suc, ◌+◌, ◌-◌, ◌/◌, ◌%◌, ◌<◌, ◌≤◌, eqb, ◌⊎◌, List, [], ◌∷◌, ◌++◌, length, get_or, replicate, sym, refl, ap, ◌∙◌, ap₂, inl, inr, ⊎_elim, arith}
use Rattle.std.proofs.lemmas.Bool.{cases_lt, cases_eq, cond-false, ne_eqb}
use Rattle.algebra.proofs.Sums.{total_cong}
use Rattle.model.specs.Lanes.{breadth, lanes_in, lane_slices}
use Rattle.model.specs.Owners.{number_of}
use Rattle.model.specs.declared.lanes.Carriageway.{Carriageway}
use Rattle.model.specs.declared.owners.Owner.{Owner}
use Rattle.model.specs.declared.owners.Owner.TheVariants.{Remaining, Lane1, Lane2, Lane3, Other}
use Rattle.placing.specs.Placing.{width, span, owners, times, lane_set}
use Rattle.statement.specs.Lanes.{Starts, Laid, lane_at, owner_of, listed}
use Rattle.statement.specs.Parts.{part_sum, HoldsAll, PartsLaid}
use Rattle.statement.proofs.Found.{lane_some, listed_cong, run_front, run_back, lane_holds, lane_found, lane_low}
use Rattle.statement.proofs.Numbered.{numbered_span, spread, occurs, first_at, numbered_sum, hit_same, hit_other, first_inside, first_apart, first_spread, spread_occurs, spread_first, where_occurs, sum_numbers}

-- ---- the numbers of the parts: other lanes are numbered from the left, the next one being o + 1
abbrev number_parts : ℕ → List Owner → List ℕ
number_parts o [] = []
number_parts o (Remaining ∷ ps) = 0 ∷ number_parts o ps
number_parts o (Lane1 ∷ ps) = 1 ∷ number_parts o ps
number_parts o (Lane2 ∷ ps) = 2 ∷ number_parts o ps
number_parts o (Lane3 ∷ ps) = 3 ∷ number_parts o ps
number_parts o (Other ∷ ps) = suc o ∷ number_parts (suc o) ps

other_owner : (o : ℕ) → 3 ≤ o → owner_of (suc o) ≡ Other
other_owner zero h = absurd (omega arith)
other_owner (suc zero) h = absurd (omega arith)
other_owner (suc (suc zero)) h = absurd (omega arith)
other_owner (suc (suc (suc o))) h = refl

numbered_fill : (l o : ℕ) (ps : List Owner) → numbered_span l (number_parts o ps) ≡ span l ps
numbered_fill l o [] = refl
numbered_fill l o (Remaining ∷ ps) = omega (arith, numbered_fill l o ps)
numbered_fill l o (Lane1 ∷ ps) = omega (arith, numbered_fill l o ps)
numbered_fill l o (Lane2 ∷ ps) = omega (arith, numbered_fill l o ps)
numbered_fill l o (Lane3 ∷ ps) = omega (arith, numbered_fill l o ps)
numbered_fill l o (Other ∷ ps) = omega (arith, numbered_fill l (suc o) ps)

-- the owner of a slice by the number of its part
part_slices : (w q n : ℕ) (xs ys : List ℕ) → number_of (owner_of q) ≡ n → ((x : ℕ) → get_or xs x 0 ≡ number_of (owner_of (get_or ys x 0)))
    → (x : ℕ) → get_or (replicate w n ++ xs) x 0 ≡ number_of (owner_of (get_or (replicate w q ++ ys) x 0))
part_slices w q n xs ys e rest x = ⊎_elim
    (λ (h : x < w). run_front w n xs x h ∙ sym e ∙ ap (λ y. number_of (owner_of y)) (sym (run_front w q ys x h)))
    (λ (h : w ≤ x).
    let y = x - w in
    let back : w + y ≡ x = omega arith in
    ap (λ z. get_or (replicate w n ++ xs) z 0) (sym back) ∙ run_back w n xs y ∙ rest y
    ∙ ap (λ z. number_of (owner_of z)) (sym (run_back w q ys y) ∙ ap (λ z. get_or (replicate w q ++ ys) z 0) back))
    (cases_lt x w)

spread_owners : (l o : ℕ) (ps : List Owner) → 3 ≤ o → (x : ℕ) → get_or (owners l ps) x 0 ≡ number_of (owner_of (get_or (spread l (number_parts o ps)) x 0))
spread_owners l o [] h = λ x. refl
spread_owners l o (Remaining ∷ ps) h = part_slices 1 0 0 (owners l ps) (spread l (number_parts o ps)) refl (spread_owners l o ps h)
spread_owners l o (Lane1 ∷ ps) h = part_slices l 1 1 (owners l ps) (spread l (number_parts o ps)) refl (spread_owners l o ps h)
spread_owners l o (Lane2 ∷ ps) h = part_slices l 2 2 (owners l ps) (spread l (number_parts o ps)) refl (spread_owners l o ps h)
spread_owners l o (Lane3 ∷ ps) h = part_slices l 3 3 (owners l ps) (spread l (number_parts o ps)) refl (spread_owners l o ps h)
spread_owners l o (Other ∷ ps) h = part_slices l (suc o) 4 (owners l ps) (spread l (number_parts (suc o) ps)) (ap number_of (other_owner o h)) (spread_owners l (suc o) ps (omega arith))

sum_parts : (c : Owner → ℕ → ℕ) (l j o : ℕ) (ps : List Owner) → 3 ≤ o → part_sum c l j ps ≡ numbered_sum (λ i x. c (owner_of i) x) l j (number_parts o ps)
sum_parts c l j o [] h = refl
sum_parts c l j o (Remaining ∷ ps) h = ap (λ y. c Remaining j + y) (sum_parts c l (j + 1) o ps h)
sum_parts c l j o (Lane1 ∷ ps) h = ap (λ y. c Lane1 j + y) (sum_parts c l (j + l) o ps h)
sum_parts c l j o (Lane2 ∷ ps) h = ap (λ y. c Lane2 j + y) (sum_parts c l (j + l) o ps h)
sum_parts c l j o (Lane3 ∷ ps) h = ap (λ y. c Lane3 j + y) (sum_parts c l (j + l) o ps h)
sum_parts c l j o (Other ∷ ps) h = ap₂ (λ (x y : ℕ). x + y) (ap (λ p. c p j) (sym (other_owner o h))) (sum_parts c l (j + l) (suc o) ps (omega arith))

-- ---- how often each number occurs
occurs_1 : (o : ℕ) (ps : List Owner) → 3 ≤ o → occurs 1 (number_parts o ps) ≡ times Lane1 ps
occurs_1 o [] h = refl
occurs_1 o (Remaining ∷ ps) h = omega (arith, occurs_1 o ps h)
occurs_1 o (Lane1 ∷ ps) h = omega (arith, occurs_1 o ps h)
occurs_1 o (Lane2 ∷ ps) h = omega (arith, occurs_1 o ps h)
occurs_1 o (Lane3 ∷ ps) h = omega (arith, occurs_1 o ps h)
occurs_1 o (Other ∷ ps) h = omega (arith, hit_other (suc o) 1 (λ e. omega arith), occurs_1 (suc o) ps (omega arith))

occurs_2 : (o : ℕ) (ps : List Owner) → 3 ≤ o → occurs 2 (number_parts o ps) ≡ times Lane2 ps
occurs_2 o [] h = refl
occurs_2 o (Remaining ∷ ps) h = omega (arith, occurs_2 o ps h)
occurs_2 o (Lane1 ∷ ps) h = omega (arith, occurs_2 o ps h)
occurs_2 o (Lane2 ∷ ps) h = omega (arith, occurs_2 o ps h)
occurs_2 o (Lane3 ∷ ps) h = omega (arith, occurs_2 o ps h)
occurs_2 o (Other ∷ ps) h = omega (arith, hit_other (suc o) 2 (λ e. omega arith), occurs_2 (suc o) ps (omega arith))

occurs_3 : (o : ℕ) (ps : List Owner) → 3 ≤ o → occurs 3 (number_parts o ps) ≡ times Lane3 ps
occurs_3 o [] h = refl
occurs_3 o (Remaining ∷ ps) h = omega (arith, occurs_3 o ps h)
occurs_3 o (Lane1 ∷ ps) h = omega (arith, occurs_3 o ps h)
occurs_3 o (Lane2 ∷ ps) h = omega (arith, occurs_3 o ps h)
occurs_3 o (Lane3 ∷ ps) h = omega (arith, occurs_3 o ps h)
occurs_3 o (Other ∷ ps) h = omega (arith, hit_other (suc o) 3 (λ e. omega arith), occurs_3 (suc o) ps (omega arith))

-- the numbers from o + 1 on occur as often as there are other lanes
occurs_not : (o i : ℕ) (ps : List Owner) → 3 ≤ o → 3 ≤ i → (i < o) ⊎ (o + times Other ps ≤ i) → occurs (suc i) (number_parts o ps) ≡ 0
occurs_not o i [] h g d = refl
occurs_not o i (Remaining ∷ ps) h g d = omega (arith, hit_other 0 (suc i) (λ e. omega arith), occurs_not o i ps h g (⊎_elim (λ (x : i < o). inl x) (λ (x : o + times Other (Remaining ∷ ps) ≤ i). inr (omega arith)) d))
occurs_not o i (Lane1 ∷ ps) h g d = omega (arith, hit_other 1 (suc i) (λ e. omega arith), occurs_not o i ps h g (⊎_elim (λ (x : i < o). inl x) (λ (x : o + times Other (Lane1 ∷ ps) ≤ i). inr (omega arith)) d))
occurs_not o i (Lane2 ∷ ps) h g d = omega (arith, hit_other 2 (suc i) (λ e. omega arith), occurs_not o i ps h g (⊎_elim (λ (x : i < o). inl x) (λ (x : o + times Other (Lane2 ∷ ps) ≤ i). inr (omega arith)) d))
occurs_not o i (Lane3 ∷ ps) h g d = omega (arith, hit_other 3 (suc i) (λ e. omega arith), occurs_not o i ps h g (⊎_elim (λ (x : i < o). inl x) (λ (x : o + times Other (Lane3 ∷ ps) ≤ i). inr (omega arith)) d))
occurs_not o i (Other ∷ ps) h g d = ⊎_elim
    (λ (x : i < o). omega (arith, hit_other (suc o) (suc i) (λ e. omega arith), occurs_not (suc o) i ps (omega arith) g (inl (omega arith))))
    (λ (x : o + times Other (Other ∷ ps) ≤ i). omega (arith, hit_other (suc o) (suc i) (λ e. omega arith), occurs_not (suc o) i ps (omega arith) g (inr (omega arith))))
    d

occurs_once : (o i : ℕ) (ps : List Owner) → 3 ≤ o → o ≤ i → i < o + times Other ps → occurs (suc i) (number_parts o ps) ≡ 1
occurs_once o i [] h lo hi = absurd (omega arith)
occurs_once o i (Remaining ∷ ps) h lo hi = omega (arith, hit_other 0 (suc i) (λ e. omega arith), occurs_once o i ps h lo (omega arith))
occurs_once o i (Lane1 ∷ ps) h lo hi = omega (arith, hit_other 1 (suc i) (λ e. omega arith), occurs_once o i ps h lo (omega arith))
occurs_once o i (Lane2 ∷ ps) h lo hi = omega (arith, hit_other 2 (suc i) (λ e. omega arith), occurs_once o i ps h lo (omega arith))
occurs_once o i (Lane3 ∷ ps) h lo hi = omega (arith, hit_other 3 (suc i) (λ e. omega arith), occurs_once o i ps h lo (omega arith))
occurs_once o i (Other ∷ ps) h lo hi = ⊎_elim
    (λ (e : o ≡ i). omega (arith, hit_same (suc o) (suc i) (ap suc e), occurs_not (suc o) i ps (omega arith) (omega arith) (inl (omega arith))))
    (λ (e : o ≡ i → ⊥). omega (arith, hit_other (suc o) (suc i) (λ z. e (omega arith)), occurs_once (suc o) i ps (omega arith) (omega arith) (omega arith)))
    (cases_eq o i)

-- the digits of the set of lanes 1 to n
digits_of : (n : ℕ) → (((1 ≤ n) → lane_set n % 2 ≡ 1) × ((2 ≤ n) → lane_set n / 2 % 2 ≡ 1) × ((3 ≤ n) → lane_set n / 4 % 2 ≡ 1))
    × ((n < 1 → lane_set n % 2 ≡ 0) × (n < 2 → lane_set n / 2 % 2 ≡ 0) × (n < 3 → lane_set n / 4 % 2 ≡ 0))
digits_of zero = ((λ h. absurd (omega arith), λ h. absurd (omega arith), λ h. absurd (omega arith)), (λ h. refl, λ h. refl, λ h. refl))
digits_of (suc zero) = ((λ h. refl, λ h. absurd (omega arith), λ h. absurd (omega arith)), (λ h. absurd (omega arith), λ h. refl, λ h. refl))
digits_of (suc (suc zero)) = ((λ h. refl, λ h. refl, λ h. absurd (omega arith)), (λ h. absurd (omega arith), λ h. absurd (omega arith), λ h. refl))
digits_of (suc (suc (suc n))) = ((λ h. refl, λ h. refl, λ h. refl), (λ h. absurd (omega arith), λ h. absurd (omega arith), λ h. absurd (omega arith)))

module _ (k : Carriageway) (parts : List Owner) (fill : span (lane_slices k.width) parts ≡ breadth k) (all : HoldsAll k parts) where
  abbrev l : ℕ
  l = lane_slices k.width

  abbrev n : ℕ
  n = lanes_in k.width

  abbrev qs : List ℕ
  qs = number_parts 3 parts

  once : (i : ℕ) → 1 ≤ i → i ≤ n → occurs i qs ≡ 1
  once zero g h = absurd (omega arith)
  once (suc zero) g h = occurs_1 3 parts (omega arith) ∙ all.first ∙ (digits_of n).0.0 h
  once (suc (suc zero)) g h = occurs_2 3 parts (omega arith) ∙ all.second ∙ (digits_of n).0.1 h
  once (suc (suc (suc zero))) g h = occurs_3 3 parts (omega arith) ∙ all.third ∙ (digits_of n).0.2 h
  once (suc (suc (suc (suc i)))) g h = occurs_once 3 (suc (suc (suc i))) parts (omega arith) (omega arith) (omega (arith, all.others))

  never : (i : ℕ) → n < i → occurs i qs ≡ 0
  never zero h = absurd (omega arith)
  never (suc zero) h = occurs_1 3 parts (omega arith) ∙ all.first ∙ (digits_of n).1.0 h
  never (suc (suc zero)) h = occurs_2 3 parts (omega arith) ∙ all.second ∙ (digits_of n).1.1 h
  never (suc (suc (suc zero))) h = occurs_3 3 parts (omega arith) ∙ all.third ∙ (digits_of n).1.2 h
  never (suc (suc (suc (suc i)))) h = occurs_not 3 (suc (suc (suc i))) parts (omega arith) (omega arith) (inr (omega (arith, all.others)))

  most_once : (i : ℕ) → 1 ≤ i → occurs i qs ≤ 1
  most_once i g = ⊎_elim (λ (h : n < i). omega (arith, never i h)) (λ (h : i ≤ n). omega (arith, once i g h)) (cases_lt n i)

  abbrev starts : Starts
  starts i = first_at l 0 qs i

  filled : numbered_span l qs ≡ breadth k
  filled = numbered_fill l 3 parts ∙ fill

  lanes_laid : Laid k starts
  lanes_laid = record {
    inside = λ i h. omega (arith, first_inside l (lane_some k.width) 0 qs i h.0 (omega (arith, once i h.0 h.1)), filled);
    apart = λ i j h g lt. first_apart l (lane_some k.width) 0 qs i j h.0 g.0 (λ e. omega arith) (omega (arith, once i h.0 h.1)) (omega (arith, once j g.0 g.1));
  }

  found : (x : ℕ) → x < breadth k → lane_at l starts n x ≡ get_or (spread l qs) x 0
  found x h =
      let v = lane_at l starts n x in
      let s = get_or (spread l qs) x 0 in
      ⊎_elim
      (λ (a : 0 < v).
      let b = lane_holds l starts n x v a refl in
      sym (first_spread l (lane_some k.width) 0 qs v x a (omega (arith, once v a (lane_low l starts x n))) (omega (arith, b)) (omega (arith, b))))
      (λ (a : v ≤ 0). ⊎_elim
      (λ (b : 0 < s).
      let o = spread_occurs l (lane_some k.width) qs s x b (omega (arith, filled)) refl in
      let low : s ≤ n = ⊎_elim (λ (y : n < s). absurd (omega (arith, o, never s y))) (λ (y : s ≤ n). y) (cases_lt n s) in
      let f = spread_first l (lane_some k.width) 0 qs s x b (once s b low) (omega (arith, filled)) refl in
      lane_found l starts n (λ i j g m lt. lanes_laid.apart i j (g, omega arith) (omega arith, m) lt) x s b low (omega (arith, f)) (omega (arith, f)))
      (λ (b : s ≤ 0). omega arith)
      (cases_lt 0 s))
      (cases_lt 0 v)

-- ---- a list is what it holds by index
listed_all : (xs : List ℕ) → listed (length xs) (λ x. get_or xs x 0) ≡ xs
listed_all [] = refl
listed_all (x ∷ xs) = ap (λ ys. x ∷ ys) (listed_all xs)

run_length : (w n : ℕ) (xs : List ℕ) → length (replicate w n ++ xs) ≡ w + length xs
run_length zero n xs = omega arith
run_length (suc w) n xs = omega (arith, run_length w n xs)

owners_length : (l : ℕ) (ps : List Owner) → length (owners l ps) ≡ span l ps
owners_length l [] = refl
owners_length l (p ∷ ps) = omega (arith, run_length (width l p) (number_of p) (owners l ps), owners_length l ps)

pub parts_laid : PartsLaid
parts_laid k parts fill all =
    let l = lane_slices k.width in
    let n = lanes_in k.width in
    let s = starts k parts fill all in
    let qs = number_parts 3 parts in (
      s,
      lanes_laid k parts fill all,
      record {
        fill = fill;
        slices =
            sym (listed_all (owners l parts)) ∙ ap (λ b. listed b (λ x. get_or (owners l parts) x 0)) (owners_length l parts ∙ fill)
            ∙ listed_cong (breadth k) _ _ (λ x h. spread_owners l 3 parts (omega arith) x ∙ ap (λ y. number_of (owner_of y)) (sym (found k parts fill all x h)));
        sums = λ c z.
            sum_parts c l 0 3 parts (omega arith)
            ∙ sum_numbers (λ i x. c (owner_of i) x) z l n 0 qs (most_once k parts fill all) (never k parts fill all)
            ∙ total_cong n (λ i. where_occurs (λ i x. c (owner_of i) x) l 0 qs (suc i)) (λ i. c (owner_of (suc i)) (s (suc i)))
            (λ i h. cond-false (eqb (occurs (suc i) qs) 0) 0 _ (ne_eqb (occurs (suc i) qs) 0 (λ e. omega (arith, once k parts fill all (suc i) (omega arith) (omega arith)))));
      },
    )
