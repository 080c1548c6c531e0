-- Sums by index: cut in two, one term more, and bounded.
use Rattle.std.proofs.Common.{◌≡◌, ℕ, zero, suc, ◌+◌, ◌*◌, ◌<◌, ◌≤◌, ap, add-mul, add-one, arith}
use Rattle.algebra.specs.Sums.{total}

pub total_more : (n : ℕ) (f : ℕ → ℕ) → total (n + 1) f ≡ total n f + f n
total_more n f = ap (λ x. total x f) (add-one n)

pub total_split : (m n : ℕ) (f : ℕ → ℕ) → total (m + n) f ≡ total m f + total n (λ i. f (m + i))
total_split m zero f = let e : total (m + 0) f ≡ total m f = ap (λ x. total x f) (omega arith) in omega arith
total_split m (suc n) f =
    let e : total (m + suc n) f ≡ total (m + n + 1) f = ap (λ x. total x f) (omega arith) in
    omega (arith, e, total_more (m + n) f, total_split m n f)

pub total_low : (n b : ℕ) (f : ℕ → ℕ) → ((i : ℕ) → i < n → f i ≤ b) → total n f ≤ n * b
total_low zero b f h = omega arith
total_low (suc n) b f h = omega (arith, total_low n b f (λ i l. h i (omega arith)), h n (omega arith), add-mul 1 n b)
