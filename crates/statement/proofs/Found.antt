-- Which lane holds a slice, and lists by index.
use Rattle.std.proofs.Common.{◌≡◌, ℕ, zero, suc, ◌+◌, ◌-◌, ◌<◌, ◌≤◌, true, false, ◌&&◌, ltb, leb, ◌⊎◌, List, ◌∷◌, ◌++◌, get_or, replicate, sym, refl, ap, ◌∙◌, subst, ap₂, ⊎_elim, arith}
use Rattle.std.proofs.lemmas.Bool.{cases_eq, cases_Bool, cond_both, cond-true, cond-false, and_parts, and_from, and_left, and_right, leb-true, ltb-true, le-leb, lt-leb, lt-ltb, le-ltb}
use Rattle.model.specs.Lanes.{lane_slices}
use Rattle.model.specs.Owners.{number_of}
use Rattle.model.specs.declared.owners.Owner.{Owner}
use Rattle.model.specs.declared.owners.Owner.TheVariants.{Remaining, Lane1, Lane2, Lane3, Other}
use Rattle.model.proofs.Tables.{lane_range}
use Rattle.placing.specs.Placing.{width}
use Rattle.statement.specs.Lanes.{Starts, lane_at, owner_of, listed}

pub lane_some : (w : ℕ) → 1 ≤ lane_slices w
lane_some w = omega (arith, lane_range w)

-- ---- lists by index
pub listed_at : (n : ℕ) (f : ℕ → ℕ) (j : ℕ) → j < n → get_or (listed n f) j 0 ≡ f j
listed_at zero f j h = absurd (omega arith)
listed_at (suc n) f zero h = refl
listed_at (suc n) f (suc j) h = listed_at n (λ i. f (suc i)) j (omega arith)

pub listed_cong : (n : ℕ) (f h : ℕ → ℕ) → ((i : ℕ) → i < n → f i ≡ h i) → listed n f ≡ listed n h
listed_cong zero f h each = refl
listed_cong (suc n) f h each = ap₂ (λ (x : ℕ) (xs : List ℕ). x ∷ xs) (each 0 (omega arith)) (listed_cong n (λ i. f (suc i)) (λ i. h (suc i)) (λ i l. each (suc i) (omega arith)))

-- a run of the same number, and then the rest
pub listed_run : (w n p : ℕ) (f : ℕ → ℕ) → ((x : ℕ) → x < w → f x ≡ p) → w ≤ n → listed n f ≡ replicate w p ++ listed (n - w) (λ x. f (w + x))
listed_run zero n p f each h = ap (λ m. listed m f) (omega arith) ∙ listed_cong (n - 0) _ _ (λ i l. ap f (omega arith))
listed_run (suc w) zero p f each h = absurd (omega arith)
listed_run (suc w) (suc n) p f each h =
    ap₂ (λ (x : ℕ) (xs : List ℕ). x ∷ xs) (each 0 (omega arith))
    (listed_run w n p (λ i. f (suc i)) (λ x l. each (suc x) (omega arith)) (omega arith)
    ∙ ap (λ xs. replicate w p ++ xs) (ap (λ m. listed m (λ x. f (suc (w + x)))) (omega arith) ∙ listed_cong (suc n - suc w) _ _ (λ i l. ap f (omega arith))))

-- the slices of the first part, and those of the parts after it
pub run_front : (w n : ℕ) (xs : List ℕ) (i : ℕ) → i < w → get_or (replicate w n ++ xs) i 0 ≡ n
run_front zero n xs i h = absurd (omega arith)
run_front (suc w) n xs zero h = refl
run_front (suc w) n xs (suc i) h = run_front w n xs i (omega arith)

pub run_back : (w n : ℕ) (xs : List ℕ) (i : ℕ) → get_or (replicate w n ++ xs) (w + i) 0 ≡ get_or xs i 0
run_back zero n xs i = ap (λ y. get_or xs y 0) (omega arith)
run_back (suc w) n xs i = ap (λ y. get_or (n ∷ (replicate w n ++ xs)) y 0) (shift w i) ∙ run_back w n xs i
  where
    shift : (w i : ℕ) → suc w + i ≡ suc (w + i)
    shift w i = omega arith

-- ---- owners by their numbers
pub owner_number : (p : Owner) → owner_of (number_of p) ≡ p
owner_number Remaining = refl
owner_number Lane1 = refl
owner_number Lane2 = refl
owner_number Lane3 = refl
owner_number Other = refl

pub lane_part : (l i : ℕ) → width l (owner_of (suc i)) ≡ l
lane_part l zero = refl
lane_part l (suc zero) = refl
lane_part l (suc (suc zero)) = refl
lane_part l (suc (suc (suc i))) = refl

pub low_owner : (a i : ℕ) → 1 ≤ i → i ≤ 3 → number_of (owner_of i) ≡ number_of (owner_of a) → a ≡ i
low_owner a zero g h e = absurd (omega arith)
low_owner zero (suc zero) g h e = absurd (omega arith)
low_owner zero (suc (suc zero)) g h e = absurd (omega arith)
low_owner zero (suc (suc (suc zero))) g h e = absurd (omega arith)
low_owner (suc zero) (suc zero) g h e = refl
low_owner (suc zero) (suc (suc zero)) g h e = absurd (omega arith)
low_owner (suc zero) (suc (suc (suc zero))) g h e = absurd (omega arith)
low_owner (suc (suc zero)) (suc zero) g h e = absurd (omega arith)
low_owner (suc (suc zero)) (suc (suc zero)) g h e = refl
low_owner (suc (suc zero)) (suc (suc (suc zero))) g h e = absurd (omega arith)
low_owner (suc (suc (suc zero))) (suc zero) g h e = absurd (omega arith)
low_owner (suc (suc (suc zero))) (suc (suc zero)) g h e = absurd (omega arith)
low_owner (suc (suc (suc zero))) (suc (suc (suc zero))) g h e = refl
low_owner (suc (suc (suc (suc a)))) (suc zero) g h e = absurd (omega arith)
low_owner (suc (suc (suc (suc a)))) (suc (suc zero)) g h e = absurd (omega arith)
low_owner (suc (suc (suc (suc a)))) (suc (suc (suc zero))) g h e = absurd (omega arith)
low_owner a (suc (suc (suc (suc i)))) g h e = absurd (omega arith)

-- ---- the lane that holds a slice
pub lane_holds : (l : ℕ) (starts : Starts) (n x i : ℕ) → 1 ≤ i → lane_at l starts n x ≡ i → (starts i ≤ x) × (x < starts i + l)
lane_holds l starts zero x i h e = absurd (omega arith)
lane_holds l starts (suc n) x i h e =
    let t = leb (starts (suc n)) x && ltb x (starts (suc n) + l) in
    ⊎_elim
    (λ (y : t ≡ true).
    let q : suc n ≡ i = sym (cond-true t (suc n) (lane_at l starts n x) y) ∙ e in
    let p = and_parts (leb (starts (suc n)) x) _ y in
    subst (λ m. (starts m ≤ x) × (x < starts m + l)) q (leb-true _ _ p.0, ltb-true _ _ p.1))
    (λ (y : t ≡ false). lane_holds l starts n x i h (sym (cond-false t (suc n) (lane_at l starts n x) y) ∙ e))
    (cases_Bool t)

pub lane_found : (l : ℕ) (starts : Starts) (n : ℕ) → ((i j : ℕ) → 1 ≤ i → j ≤ n → i < j → (starts i + l ≤ starts j) ⊎ (starts j + l ≤ starts i))
    → (x i : ℕ) → 1 ≤ i → i ≤ n → starts i ≤ x → x < starts i + l → lane_at l starts n x ≡ i
lane_found l starts zero apart x i h k a b = absurd (omega arith)
lane_found l starts (suc n) apart x i h k a b =
    let t = leb (starts (suc n)) x && ltb x (starts (suc n) + l) in
    ⊎_elim
    (λ (e : i ≡ suc n).
    let s : starts i ≡ starts (suc n) = ap starts e in
    cond-true t (suc n) (lane_at l starts n x) (and_from (leb (starts (suc n)) x) _ (le-leb _ _ (omega arith)) (lt-ltb _ _ (omega arith))) ∙ sym e)
    (λ (e : i ≡ suc n → ⊥).
    let off : t ≡ false = ⊎_elim
    (λ (m : starts i + l ≤ starts (suc n)). and_left (leb (starts (suc n)) x) _ (lt-leb _ _ (omega arith)))
    (λ (m : starts (suc n) + l ≤ starts i). and_right (leb (starts (suc n)) x) _ (le-ltb _ _ (omega arith)))
    (apart i (suc n) h (omega arith) (omega arith)) in
    cond-false t (suc n) (lane_at l starts n x) off ∙ lane_found l starts n (λ i j f o m. apart i j f (omega arith) m) x i h (omega arith) a b)
    (cases_eq i (suc n))

pub lane_low : (l : ℕ) (starts : Starts) (x m : ℕ) → lane_at l starts m x ≤ m
lane_low l starts x zero = omega arith
lane_low l starts x (suc m) = cond_both _ (suc m) (lane_at l starts m x) (λ y. y ≤ suc m) (λ e. omega arith) (λ e. omega (arith, lane_low l starts x m))
