-- Products and quotients of ordinates stay in range: what weighted means and shares of ordinates come to.
use Rattle.std.proofs.Common.{◌≡◌, ℕ, suc, ◌+◌, ◌*◌, ◌<◌, ◌≤◌, ℤ, pos, negsuc, ◌+ℤ◌, ◌*ℤ◌, nat_abs, mul-le-mul_right, suc-mul, div-lt_iff_lt-mul, mul-le-mul, mul-add, arith, w32, w64, to_z, of_z}
use borrow.Author.Differences.{ints}
use Rattle.std.specs.Int.{int_div_euclid}
use Rattle.std.proofs.lemmas.Int.{unsigned_abs-mul}

pub times_within : (v : ℤ) (n b : ℕ) → nat_abs v ≤ b → nat_abs (v *ℤ pos n) ≤ b * n
times_within v n b h = omega (arith, unsigned_abs-mul v (pos n), mul-le-mul_right n h)

-- a product as code computes it, of an i32 and a number below 2 ^ 32, both as i64
pub product_is : (v l : ℤ) (n : ℕ) → nat_abs v < 2147483648 → n < 4294967296 → l ≡ to_z w32 (of_z w32 v) → to_z w64 (of_z w64 (to_z w64 (of_z w64 l) *ℤ to_z w64 n)) ≡ v *ℤ pos n
product_is v l n hv hn e =
    let a : to_z w64 (of_z w64 l) ≡ v = omega (arith, ints) in
    let b : to_z w64 n ≡ pos n = omega (arith, ints) in
    let w = times_within v n 2147483647 (omega arith) in
    simp (a, b) (omega (arith, ints))

pub quotient_within : (z : ℤ) (d b : ℕ) → 0 < d → nat_abs z ≤ b * d → nat_abs (int_div_euclid z (pos d)) ≤ b
quotient_within (pos a) d b some h = let g : a < suc b * d = omega (arith, suc-mul b d) in omega (arith, (div-lt_iff_lt-mul {y = suc b} some).1 g)
quotient_within (negsuc a) d b some h = (div-lt_iff_lt-mul some).1 h

pub mix_within : (v u : ℤ) (x y b : ℕ) → nat_abs v ≤ b → nat_abs u ≤ b → nat_abs (v *ℤ pos x +ℤ u *ℤ pos y) ≤ b * (x + y)
mix_within v u x y b hv hu =
    let l = times_within v x b hv in
    let r = times_within u y b hu in
    let e = mul-add b x y in
    omega (arith, ints)

pub product_within : (v w : ℤ) (a b : ℕ) → nat_abs v ≤ a → nat_abs w ≤ b → nat_abs (v *ℤ w) ≤ a * b
product_within v w a b hv hw =
    let m : nat_abs v * nat_abs w ≤ a * b = mul-le-mul hv hw in
    omega (arith, unsigned_abs-mul v w)
