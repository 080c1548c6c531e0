-- The ordinates under the four wheels of an axle, added up as the machine does.
use Rattle.std.proofs.Common.{◌≡◌, ℕ, ◌+◌, ◌≤◌, List, [], get_or, ℤ, pos, ◌+ℤ◌, nat_abs, sym, ap, ◌∙◌, subst, arith, w32, SFits, to_z, of_z}
use Rattle.std.proofs.lemmas.Int.{ints}
use Rattle.model.specs.Lanes.{wheels}
use Rattle.loads.specs.Held.{held_sum}

abbrev onto : ℤ → ℤ → ℤ
onto z x = to_z w32 (of_z w32 (z +ℤ to_z w32 (of_z w32 x)))

-- one wheel more
more : (z y x : ℤ) (b : ℕ) → z ≡ y → nat_abs y ≤ b → b ≤ 300000 → nat_abs x ≤ 100000 → (onto z x ≡ y +ℤ x) × SFits w32 (z +ℤ to_z w32 (of_z w32 x)) × (nat_abs (y +ℤ x) ≤ b + 100000)
more z y x b e h k l = (omega (arith, ints), omega (arith, ints), omega (arith, ints))

-- the ordinate under wheel i, of wheels on the slices w
abbrev under_wheel : List (List ℤ) → ℕ → ℕ → List ℕ → ℕ → ℤ
under_wheel ys start k w i = get_or (get_or ys (start + get_or w i 0) []) k (pos 0)

regroup : (a b c d : ℤ) → a +ℤ b +ℤ c +ℤ d ≡ a +ℤ (b +ℤ (c +ℤ (d +ℤ pos 0)))
regroup a b c d = omega (arith, ints)

module _ (ys : List (List ℤ)) (low : (j k : ℕ) → nat_abs (get_or (get_or ys j []) k (pos 0)) ≤ 100000) (start k : ℕ) (w : List ℕ) where
  abbrev y : ℕ → ℤ
  y i = under_wheel ys start k w i

  read : to_z w32 (of_z w32 (y 0)) ≡ y 0
  read = let h : nat_abs (y 0) ≤ 100000 = low _ k in omega (arith, ints)

  two : (onto (to_z w32 (of_z w32 (y 0))) (y 1) ≡ y 0 +ℤ y 1) × SFits w32 (to_z w32 (of_z w32 (y 0)) +ℤ to_z w32 (of_z w32 (y 1))) × (nat_abs (y 0 +ℤ y 1) ≤ 200000)
  two = more _ (y 0) (y 1) 100000 read (low _ k) (omega arith) (low _ k)

  three : (onto (onto (to_z w32 (of_z w32 (y 0))) (y 1)) (y 2) ≡ y 0 +ℤ y 1 +ℤ y 2) × SFits w32 (onto (to_z w32 (of_z w32 (y 0))) (y 1) +ℤ to_z w32 (of_z w32 (y 2))) × (nat_abs (y 0 +ℤ y 1 +ℤ y 2) ≤ 300000)
  three = more _ (y 0 +ℤ y 1) (y 2) 200000 two.0 two.2 (omega arith) (low _ k)

  four : (onto (onto (onto (to_z w32 (of_z w32 (y 0))) (y 1)) (y 2)) (y 3) ≡ y 0 +ℤ y 1 +ℤ y 2 +ℤ y 3)
      × SFits w32 (onto (onto (to_z w32 (of_z w32 (y 0))) (y 1)) (y 2) +ℤ to_z w32 (of_z w32 (y 3))) × (nat_abs (y 0 +ℤ y 1 +ℤ y 2 +ℤ y 3) ≤ 400000)
  four = more _ (y 0 +ℤ y 1 +ℤ y 2) (y 3) 300000 three.0 three.2 (omega arith) (low _ k)

  pub sum_3_fits : SFits w32 (onto (to_z w32 (of_z w32 (y 0))) (y 1) +ℤ to_z w32 (of_z w32 (y 2)))
  sum_3_fits = three.1

  pub sum_4_fits : SFits w32 (onto (onto (to_z w32 (of_z w32 (y 0))) (y 1)) (y 2) +ℤ to_z w32 (of_z w32 (y 3)))
  sum_4_fits = four.1

  pub sum_value : (lane : ℕ) → w ≡ wheels lane → onto (onto (onto (to_z w32 (of_z w32 (y 0))) (y 1)) (y 2)) (y 3) ≡ held_sum ys start lane k
  sum_value lane e = four.0 ∙ regroup (y 0) (y 1) (y 2) (y 3) ∙ ap (λ (v : List ℕ). under_wheel ys start k v 0 +ℤ (under_wheel ys start k v 1 +ℤ (under_wheel ys start k v 2 +ℤ (under_wheel ys start k v 3 +ℤ pos 0)))) e

  pub sum_within : nat_abs (onto (onto (onto (to_z w32 (of_z w32 (y 0))) (y 1)) (y 2)) (y 3)) ≤ 400000
  sum_within = subst (λ (z : ℤ). nat_abs z ≤ 400000) (sym four.0) four.2
