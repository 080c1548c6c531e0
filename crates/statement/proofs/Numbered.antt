-- Parts that are numbered: where each number stands first, and what that says of the slices.
use Rattle.std.proofs.Common.{◌≡◌, ℕ, zero, suc, ◌+◌, ◌-◌, ◌<◌, ◌≤◌, cond, eqb, ◌⊎◌, List, [], ◌∷◌, ◌++◌, get_or, replicate, sym, refl, ap, ◌∙◌, subst, ap₂, inl, inr, ⊎_elim, arith}
use Rattle.std.proofs.lemmas.Bool.{cases_lt, cases_eq, cond-true, cond-false, eq-eqb, ne_eqb}
use Rattle.algebra.specs.Sums.{total}
use Rattle.algebra.proofs.Sums.{total_cong}
use Rattle.statement.proofs.Found.{run_front, run_back}

-- a part is 0 for a remaining slice, or the number of a lane of l slices
abbrev pub numbered_width : ℕ → ℕ → ℕ
numbered_width l zero = 1
numbered_width l (suc i) = l

abbrev pub numbered_span : ℕ → List ℕ → ℕ
numbered_span l [] = 0
numbered_span l (q ∷ qs) = numbered_width l q + numbered_span l qs

-- the number at each slice
abbrev pub spread : ℕ → List ℕ → List ℕ
spread l [] = []
spread l (q ∷ qs) = replicate (numbered_width l q) q ++ spread l qs

abbrev pub same_number : ℕ → ℕ → ℕ
same_number q i = cond (eqb q i) 1 0

-- how often the number i occurs
abbrev pub occurs : ℕ → List ℕ → ℕ
occurs i [] = 0
occurs i (q ∷ qs) = same_number q i + occurs i qs

-- where it occurs first, the first part at slice j
abbrev pub first_at : ℕ → ℕ → List ℕ → ℕ → ℕ
first_at l j [] i = 0
first_at l j (q ∷ qs) i = cond (eqb q i) j (first_at l (j + numbered_width l q) qs i)

-- c of each lane by its number and first slice
abbrev pub numbered_sum : (ℕ → ℕ → ℕ) → ℕ → ℕ → List ℕ → ℕ
numbered_sum c l j [] = 0
numbered_sum c l j (q ∷ qs) = c q j + numbered_sum c l (j + numbered_width l q) qs

pub hit_same : (q i : ℕ) → q ≡ i → same_number q i ≡ 1
hit_same q i e = cond-true (eqb q i) 1 0 (eq-eqb q i e)

pub hit_other : (q i : ℕ) → (q ≡ i → ⊥) → same_number q i ≡ 0
hit_other q i e = cond-false (eqb q i) 1 0 (ne_eqb q i e)

first_here : (l j q : ℕ) (qs : List ℕ) (i : ℕ) → q ≡ i → first_at l j (q ∷ qs) i ≡ j
first_here l j q qs i e = cond-true (eqb q i) j (first_at l (j + numbered_width l q) qs i) (eq-eqb q i e)

first_later : (l j q : ℕ) (qs : List ℕ) (i : ℕ) → (q ≡ i → ⊥) → first_at l j (q ∷ qs) i ≡ first_at l (j + numbered_width l q) qs i
first_later l j q qs i e = cond-false (eqb q i) j (first_at l (j + numbered_width l q) qs i) (ne_eqb q i e)

lane_wide : (l q i : ℕ) → 1 ≤ i → q ≡ i → numbered_width l q ≡ l
lane_wide l zero i h e = absurd (omega arith)
lane_wide l (suc q) i h e = refl

module _ (l : ℕ) (some : 1 ≤ l) where
  -- a lane that occurs lies within the parts
  pub first_inside : (j : ℕ) (qs : List ℕ) (i : ℕ) → 1 ≤ i → 1 ≤ occurs i qs → (j ≤ first_at l j qs i) × (first_at l j qs i + l ≤ j + numbered_span l qs)
  first_inside j [] i h o = absurd (omega arith)
  first_inside j (q ∷ qs) i h o = ⊎_elim
      (λ (e : q ≡ i). let f = first_here l j q qs i e in let w = lane_wide l q i h e in (omega (arith, f), omega (arith, f, w)))
      (λ (e : q ≡ i → ⊥).
      let f = first_later l j q qs i e in
      let r = first_inside (j + numbered_width l q) qs i h (omega (arith, hit_other q i e)) in
      (omega (arith, f, r), omega (arith, f, r)))
      (cases_eq q i)

  -- two lanes that occur do not overlap
  pub first_apart : (j : ℕ) (qs : List ℕ) (i k : ℕ) → 1 ≤ i → 1 ≤ k → (i ≡ k → ⊥) → 1 ≤ occurs i qs → 1 ≤ occurs k qs
      → (first_at l j qs i + l ≤ first_at l j qs k) ⊎ (first_at l j qs k + l ≤ first_at l j qs i)
  first_apart j [] i k h g ne o p = absurd (omega arith)
  first_apart j (q ∷ qs) i k h g ne o p = ⊎_elim
      (λ (e : q ≡ i).
      let other : q ≡ k → ⊥ = λ z. ne (sym e ∙ z) in
      let a = first_here l j q qs i e in
      let b = first_later l j q qs k other in
      let w = lane_wide l q i h e in
      let r = first_inside (j + numbered_width l q) qs k g (omega (arith, hit_other q k other)) in
      inl (omega (arith, a, b, w, r)))
      (λ (e : q ≡ i → ⊥). ⊎_elim
      (λ (f : q ≡ k).
      let a = first_later l j q qs i e in
      let b = first_here l j q qs k f in
      let w = lane_wide l q k g f in
      let r = first_inside (j + numbered_width l q) qs i h (omega (arith, hit_other q i e)) in
      inr (omega (arith, a, b, w, r)))
      (λ (f : q ≡ k → ⊥).
      let a = first_later l j q qs i e in
      let b = first_later l j q qs k f in
      ⊎_elim
      (λ (r : first_at l (j + numbered_width l q) qs i + l ≤ first_at l (j + numbered_width l q) qs k). inl (omega (arith, a, b)))
      (λ (r : first_at l (j + numbered_width l q) qs k + l ≤ first_at l (j + numbered_width l q) qs i). inr (omega (arith, a, b)))
      (first_apart (j + numbered_width l q) qs i k h g ne (omega (arith, hit_other q i e)) (omega (arith, hit_other q k f))))
      (cases_eq q k))
      (cases_eq q i)

  -- the slices of a lane that occurs have its number
  pub first_spread : (j : ℕ) (qs : List ℕ) (i x : ℕ) → 1 ≤ i → 1 ≤ occurs i qs → first_at l j qs i ≤ j + x → j + x < first_at l j qs i + l → get_or (spread l qs) x 0 ≡ i
  first_spread j [] i x h o lo hi = absurd (omega arith)
  first_spread j (q ∷ qs) i x h o lo hi = ⊎_elim
      (λ (e : q ≡ i). let f = first_here l j q qs i e in let w = lane_wide l q i h e in run_front (numbered_width l q) q (spread l qs) x (omega (arith, f, w)) ∙ e)
      (λ (e : q ≡ i → ⊥).
      let w = numbered_width l q in
      let f = first_later l j q qs i e in
      let r = first_inside (j + w) qs i h (omega (arith, hit_other q i e)) in
      let y = x - w in
      let back : w + y ≡ x = omega (arith, f, r) in
      ap (λ z. get_or (spread l (q ∷ qs)) z 0) (sym back) ∙ run_back w q (spread l qs) y
      ∙ first_spread (j + w) qs i y h (omega (arith, hit_other q i e)) (omega (arith, f)) (omega (arith, f)))
      (cases_eq q i)

  -- a slice with a lane's number is one of a lane that occurs, and of the only one if it occurs once
  pub spread_occurs : (qs : List ℕ) (i x : ℕ) → 1 ≤ i → x < numbered_span l qs → get_or (spread l qs) x 0 ≡ i → 1 ≤ occurs i qs
  spread_occurs [] i x h lt e = absurd (omega arith)
  spread_occurs (q ∷ qs) i x h lt e =
      let w = numbered_width l q in
      ⊎_elim
      (λ (n : x < w). let f : q ≡ i = sym (run_front w q (spread l qs) x n) ∙ e in omega (arith, hit_same q i f))
      (λ (n : w ≤ x).
      let y = x - w in
      let back : w + y ≡ x = omega arith in
      let r = spread_occurs qs i y h (omega arith) (sym (run_back w q (spread l qs) y) ∙ ap (λ z. get_or (spread l (q ∷ qs)) z 0) back ∙ e) in
      omega (arith, r))
      (cases_lt x w)

  pub spread_first : (j : ℕ) (qs : List ℕ) (i x : ℕ) → 1 ≤ i → occurs i qs ≡ 1 → x < numbered_span l qs → get_or (spread l qs) x 0 ≡ i → (first_at l j qs i ≤ j + x) × (j + x < first_at l j qs i + l)
  spread_first j [] i x h o lt e = absurd (omega arith)
  spread_first j (q ∷ qs) i x h o lt e =
      let w = numbered_width l q in
      ⊎_elim
      (λ (n : x < w).
      let f : q ≡ i = sym (run_front w q (spread l qs) x n) ∙ e in
      let a = first_here l j q qs i f in
      let v = lane_wide l q i h f in
      (omega (arith, a), omega (arith, a, v)))
      (λ (n : w ≤ x).
      let y = x - w in
      let back : w + y ≡ x = omega arith in
      let e' : get_or (spread l qs) y 0 ≡ i = sym (run_back w q (spread l qs) y) ∙ ap (λ z. get_or (spread l (q ∷ qs)) z 0) back ∙ e in
      let later = spread_occurs qs i y h (omega arith) e' in
      ⊎_elim
      (λ (f : q ≡ i). absurd (omega (arith, hit_same q i f, later)))
      (λ (f : q ≡ i → ⊥).
      let a = first_later l j q qs i f in
      let r = spread_first (j + w) qs i y h (omega (arith, hit_other q i f)) (omega arith) e' in
      (omega (arith, a, r), omega (arith, a, r)))
      (cases_eq q i))
      (cases_lt x w)

-- ---- sums
-- two sums that differ at one place
total_bump : (n : ℕ) (f h : ℕ → ℕ) (i v : ℕ) → i < n → f i ≡ v + h i → ((k : ℕ) → k < n → (k ≡ i → ⊥) → f k ≡ h k) → total n f ≡ v + total n h
total_bump zero f h i v lt here there = absurd (omega arith)
total_bump (suc n) f h i v lt here there = ⊎_elim
    (λ (e : n ≡ i).
    let a : f n ≡ v + h n = subst (λ m. f m ≡ v + h m) (sym e) here in
    let r = total_cong n f h (λ k l. there k (omega arith) (λ z. omega arith)) in
    omega (arith, a, r))
    (λ (e : n ≡ i → ⊥).
    let r = total_bump n f h i v (omega arith) here (λ k l ne. there k (omega arith) ne) in
    let a = there n (omega arith) e in
    omega (arith, a, r))
    (cases_eq n i)

-- 0 where the number does not occur
abbrev pub where_occurs : (ℕ → ℕ → ℕ) → ℕ → ℕ → List ℕ → ℕ → ℕ
where_occurs c l j qs i = cond (eqb (occurs i qs) 0) 0 (c i (first_at l j qs i))

where_later : (c : ℕ → ℕ → ℕ) (l j q : ℕ) (qs : List ℕ) (i : ℕ) → (q ≡ i → ⊥) → where_occurs c l j (q ∷ qs) i ≡ where_occurs c l (j + numbered_width l q) qs i
where_later c l j q qs i e =
    let o : occurs i (q ∷ qs) ≡ occurs i qs = omega (arith, hit_other q i e) in
    ap₂ (λ (m s : ℕ). cond (eqb m 0) 0 (c i s)) o (first_later l j q qs i e)

-- where each number occurs at most once and none is above n, sums over the parts are sums over the numbers
pub sum_numbers : (c : ℕ → ℕ → ℕ) → ((j : ℕ) → c 0 j ≡ 0) → (l n j : ℕ) (qs : List ℕ) → ((i : ℕ) → 1 ≤ i → occurs i qs ≤ 1) → ((i : ℕ) → n < i → occurs i qs ≡ 0)
    → numbered_sum c l j qs ≡ total n (λ i. where_occurs c l j qs (suc i))
sum_numbers c z l n j [] once low = none n
  where
    none : (n : ℕ) → 0 ≡ total n (λ i. where_occurs c l j [] (suc i))
    none zero = refl
    none (suc n) = omega (arith, none n)
sum_numbers c z l n j (zero ∷ qs) once low =
    let r = sum_numbers c z l n (j + 1) qs (λ i h. omega (arith, once i h)) (λ i h. omega (arith, low i h)) in
    let t = total_cong n (λ i. where_occurs c l j (0 ∷ qs) (suc i)) (λ i. where_occurs c l (j + 1) qs (suc i)) (λ i h. where_later c l j 0 qs (suc i) (λ e. omega arith)) in
    omega (arith, z j, r, t)
sum_numbers c z l n j (suc q ∷ qs) once low =
    let here = hit_same (suc q) (suc q) refl in
    let fits : q < n = ⊎_elim (λ (h : n < suc q). absurd (omega (arith, here, low (suc q) h))) (λ (h : suc q ≤ n). omega arith) (cases_lt n (suc q)) in
    let r = sum_numbers c z l n (j + l) qs (λ i h. omega (arith, once i h)) (λ i h. omega (arith, low i h)) in
    let gone : occurs (suc q) qs ≡ 0 = omega (arith, here, once (suc q) (omega arith)) in
    let mine : where_occurs c l j (suc q ∷ qs) (suc q) ≡ c (suc q) j =
    cond-false (eqb (occurs (suc q) (suc q ∷ qs)) 0) 0 _ (ne_eqb (occurs (suc q) (suc q ∷ qs)) 0 (λ e. omega (arith, here))) ∙ ap (c (suc q)) (first_here l j (suc q) qs (suc q) refl) in
    let after : where_occurs c l (j + l) qs (suc q) ≡ 0 = cond-true (eqb (occurs (suc q) qs) 0) 0 _ (eq-eqb (occurs (suc q) qs) 0 gone) in
    let t = total_bump n (λ i. where_occurs c l j (suc q ∷ qs) (suc i)) (λ i. where_occurs c l (j + l) qs (suc i)) q (c (suc q) j) fits (omega (arith, mine, after))
    (λ k h ne. where_later c l j (suc q) qs (suc k) (λ e. ne (omega arith))) in
    omega (arith, r, t)
