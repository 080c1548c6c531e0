-- What rounding a quotient up means.
use Rattle.std.proofs.Common.{◌≡◌, ℕ, ◌+◌, ◌-◌, ◌*◌, ◌/◌, ◌%◌, ◌<◌, ◌≤◌, min, ⊎_elim, mul-le-mul_right, div-add-mod', le_of_mul-le-mul_right, arith}
use Rattle.std.proofs.lemmas.Nat.{div_below}
use Rattle.std.proofs.lemmas.Bool.{cases_lt}
use Rattle.algebra.specs.Frac.{ceil, Ceil}

pub ceils : Ceil
ceils n d k p = (λ h. omega (arith, mul-le-mul_right d h), λ h. let q : (n + (d - 1)) / d < k + 1 = div_below (n + (d - 1)) d (k + 1) p (omega arith) in omega arith)

below : (n d : ℕ) → n / d * d ≤ n
below n d = omega (arith, div-add-mod' n d)

-- the quotient n / d and its rounding up are less than 1 apart
pub near : (n d : ℕ) → 0 < d → (n ≤ ceil n d * d) × (ceil n d * d < n + d)
near n d p = ((ceils n d (ceil n d) p).0 (omega arith), omega (arith, below (n + (d - 1)) d))

-- what the machine's division with rounding up promises
pub div_ceil_is : (n d : ℕ) → 0 < d → n / d + min 1 (n % d) ≡ ceil n d
div_ceil_is n d p =
    let k = ceil n d in
    let q = n / d in
    let a = near n d p in
    let e = div-add-mod' n d in
    ⊎_elim
    (λ h.
    let f : q ≤ k = le_of_mul-le-mul_right {m = q} {n = k} {k = d} (omega arith) p in
    ⊎_elim (λ l. absurd (omega (arith, mul-le-mul_right d l))) (λ l. omega arith) (cases_lt q k))
    (λ h.
    let f : q < k = ⊎_elim (λ l. l) (λ l. absurd (omega (arith, mul-le-mul_right d l))) (cases_lt q k) in
    ⊎_elim (λ l. absurd (omega (arith, mul-le-mul_right d l))) (λ l. omega arith) (cases_lt (q + 1) k))
    (cases_lt (n % d) 1)
