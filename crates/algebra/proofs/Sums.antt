-- What bounds each part of a sum bounds the sum; sums of equal parts, and of parts in reverse.
use Rattle.std.proofs.Common.{◌≡◌, ℕ, zero, suc, ◌+◌, ◌-◌, ◌<◌, pos, refl, ap, ◌∙◌, ap₂, arith}
use Rattle.std.proofs.lemmas.Int.{ints}
use Rattle.algebra.specs.Frac.{whole, ◌+F◌}
use Rattle.algebra.specs.Sums.{total, totalF, TotalBound, TotalNear}
use Rattle.algebra.proofs.Frac.{trans, adds, refl_≤, regroup, join, split}

pub total_bound : TotalBound
total_bound zero f b h = refl_≤ _
total_bound (suc n) f b h = trans (adds (total_bound n f b (λ k i. h k (omega arith))) (h n (omega arith))) (join (total n b) (b n))

pub total_near : TotalNear
total_near zero f b c h = record { cross = omega (arith, ints) }
total_near (suc n) f b c h =
    let rest = total_near n f b c (λ k i. h k (omega arith)) in
    trans (split (total n b) (b n))
    (trans (adds rest (h n (omega arith)))
    (trans (regroup (totalF n f) (whole (pos (total n c))) (f n) (whole (pos (c n))))
    (adds (refl_≤ (totalF n f +F f n)) (join (total n c) (c n)))))

pub total_cong : (n : ℕ) (f h : ℕ → ℕ) → ((i : ℕ) → i < n → f i ≡ h i) → total n f ≡ total n h
total_cong zero f h each = refl
total_cong (suc n) f h each = ap₂ (λ (a b : ℕ). a + b) (total_cong n f h (λ i l. each i (omega arith))) (each n (omega arith))

total_front : (n : ℕ) (f : ℕ → ℕ) → total (suc n) f ≡ f 0 + total n (λ i. f (suc i))
total_front zero f = omega arith
total_front (suc n) f = let ih = total_front n f in omega arith

pub total_reverse : (n : ℕ) (f : ℕ → ℕ) → total n f ≡ total n (λ j. f (n - 1 - j))
total_reverse zero f = refl
total_reverse (suc n) f =
    let h : ℕ → ℕ = λ j. f (suc n - 1 - j) in
    let e : total n (λ j. f (suc (n - 1 - j))) ≡ total n h = total_cong n _ _ (λ j l. ap f (omega arith)) in
    let z : f 0 ≡ h n = ap f (omega arith) in
    total_front n f ∙ ap (λ a. f 0 + a) (total_reverse n (λ i. f (suc i)) ∙ e) ∙ ap (λ a. a + total n h) z ∙ (omega arith)
