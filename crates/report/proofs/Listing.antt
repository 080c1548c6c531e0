-- The list of all numbers with a property, one number further on.
use Rattle.std.proofs.Common.{◌≡◌, ℕ, ◌+◌, ◌<◌, List, [], ◌∷◌, ◌++◌, length, get_or, sym, refl, ap, ◌∙◌, subst, arith, below_more}
use Rattle.std.proofs.lemmas.List.{get_or_append_left, get_or_push, length_push}
use Rattle.report.specs.Shown.{Listed}

pub listed_none : (P : ℕ → Type 0) → Listed P 0 []
listed_none P = record { below = λ k h. absurd (omega arith); each = λ k h. absurd (omega arith); rising = λ k h. absurd (omega arith); all = λ j h p. absurd (omega arith) }

pub listed_same : (P : ℕ → Type 0) (n : ℕ) (xs : List ℕ) → Listed P n xs → (P n → ⊥) → Listed P (n + 1) xs
listed_same P n xs l without = record {
  below = λ k h. omega (arith, l.below k h);
  each = l.each;
  rising = l.rising;
  all = below_more (λ j. P j → (k : ℕ) × (k < length xs) × (get_or xs k 0 ≡ j)) n l.all (λ p. absurd (without p));
}

module _ (P : ℕ → Type 0) (n : ℕ) (xs : List ℕ) (l : Listed P n xs) (p : P n) where
  abbrev ys : List ℕ
  ys = xs ++ n ∷ []

  earlier : (k : ℕ) → k < length xs → get_or ys k 0 ≡ get_or xs k 0
  earlier k h = get_or_append_left xs (n ∷ []) 0 k h

  newest : get_or ys (length xs) 0 ≡ n
  newest = get_or_push xs n 0 (length xs) refl

  longer : length ys ≡ length xs + 1
  longer = length_push xs n

  rises : (m : ℕ) → m < length xs + 1 → (k : ℕ) → k + 1 ≡ m → get_or ys k 0 < get_or ys m 0
  rises =
      below_more (λ m. (k : ℕ) → k + 1 ≡ m → get_or ys k 0 < get_or ys m 0) (length xs)
      (λ m h k e.
      let a = earlier k (omega arith) in
      let b = earlier m h in
      let d : get_or xs (k + 1) 0 ≡ get_or xs m 0 = ap (λ (i : ℕ). get_or xs i 0) e in
      omega (arith, l.rising k (omega arith)))
      (λ k e.
      let a = earlier k (omega arith) in
      omega (arith, newest, l.below k (omega arith)))

  pub listed_more : Listed P (n + 1) (xs ++ n ∷ [])
  listed_more = record {
    below = λ k h. below_more (λ i. get_or ys i 0 < n + 1) (length xs) (λ i g. omega (arith, earlier i g, l.below i g)) (omega (arith, newest)) k (omega (arith, longer));
    each = λ k h. below_more (λ i. P (get_or ys i 0)) (length xs) (λ i g. subst P (sym (earlier i g)) (l.each i g)) (subst P (sym newest) p) k (omega (arith, longer));
    rising = λ k h. rises (k + 1) (omega (arith, longer)) k refl;
    all = below_more (λ j. P j → (k : ℕ) × (k < length ys) × (get_or ys k 0 ≡ j)) n
        (λ j h q. let r = l.all j h q in (r.0, omega (arith, longer), earlier r.0 r.1 ∙ r.2))
        (λ q. (length xs, omega (arith, longer), newest));
  }
