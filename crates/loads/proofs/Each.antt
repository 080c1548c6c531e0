-- What holds of each element of a list, and of what is read beyond its end.
use Rattle.std.proofs.Common.{ℕ, zero, suc, ◌+◌, ◌-◌, ◌<◌, ◌≤◌, ◌≡◌, ◌≢◌, List, [], ◌∷◌, ◌++◌, length, get_or, set, take, drop, replicate, sym, ap, ◌∙◌, subst, arith, below_more}
use Rattle.std.proofs.lemmas.List.{get_or-drop, get_or_append_left, get_or-append-add, get_or-set_same, get_or-set_other}

module _ {X : Type 0} (P : X → Type 0) (d : X) (none : P d) where
  pub each_same : (n : ℕ) (x : X) → P x → (k : ℕ) → P (get_or (replicate n x) k d)
  each_same zero x p k = none
  each_same (suc n) x p zero = p
  each_same (suc n) x p (suc k) = each_same n x p k

  pub each_take : (n : ℕ) (xs : List X) → ((k : ℕ) → P (get_or xs k d)) → (k : ℕ) → P (get_or (take n xs) k d)
  each_take zero xs h k = none
  each_take (suc n) [] h k = none
  each_take (suc n) (x ∷ xs) h zero = h 0
  each_take (suc n) (x ∷ xs) h (suc k) = each_take n xs (λ j. h (suc j)) k

  pub each_joined : (n : ℕ) (xs ys : List X) → ((k : ℕ) → P (get_or xs k d)) → ((k : ℕ) → P (get_or ys k d)) → (k : ℕ) → P (get_or (xs ++ drop n ys) k d)
  each_joined n [] ys h i k = subst P (sym (get_or-drop n ys k d)) (i (n + k))
  each_joined n (x ∷ xs) ys h i zero = h 0
  each_joined n (x ∷ xs) ys h i (suc k) = each_joined n xs ys (λ j. h (suc j)) i k

-- one element more is filled
pub fill_more : {X : Type 0} (P : ℕ → X → Type 0) (xs : List X) (k : ℕ) (x d : X) → k < length xs → ((i : ℕ) → i < k → P i (get_or xs i d)) → P k x → (i : ℕ) → i < k + 1 → P i (get_or (set xs k x) i d)
fill_more P xs k x d h f p =
    below_more _ _
    (λ i l. let ne : i ≢ k = omega arith in subst (P i) (sym (get_or-set_other xs k i x d ne)) (f i l))
    (subst (P k) (sym (get_or-set_same xs k x d h)) p)

-- the front of a list is written, and the rest stays
module _ {X : Type 0} (xs ys : List X) (n : ℕ) (d : X) (e : length xs ≡ n) where
  pub written : (j : ℕ) → j < n → get_or (xs ++ drop n ys) j d ≡ get_or xs j d
  written j h = get_or_append_left xs (drop n ys) d j (omega arith)

  pub beyond : (j : ℕ) → n ≤ j → get_or (xs ++ drop n ys) j d ≡ get_or ys j d
  beyond j h =
      let i : length xs + (j - n) ≡ j = omega arith in
      let k : n + (j - n) ≡ j = omega arith in
      ap (λ (m : ℕ). get_or (xs ++ drop n ys) m d) (sym i) ∙ get_or-append-add xs (drop n ys) (j - n) d ∙ get_or-drop n ys (j - n) d ∙ ap (λ (m : ℕ). get_or ys m d) k
