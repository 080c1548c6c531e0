-- What rises from each number to the next does not fall from any number to a later one.
use Rattle.std.specs.Prelude.{◌≡◌, ℕ, zero, suc, ◌+◌, ◌-◌, ◌<◌, ◌≤◌}
use Rattle.std.proofs.Common.{ap, add-zero, arith}

module _ (f : ℕ → ℕ) (n : ℕ) (up : (k : ℕ) → k + 1 < n → f k < f (k + 1)) where
  climb : (i d : ℕ) → i + d < n → f i ≤ f (i + d)
  climb i zero h = simp add-zero (omega arith)
  climb i (suc d) h =
      let so_far = climb i d (omega arith) in
      let here = up (i + d) (omega arith) in
      let e : f (i + d + 1) ≡ f (i + suc d) = ap f (omega arith) in
      omega arith

  pub rises : (i k : ℕ) → i ≤ k → k < n → f i ≤ f k
  rises i k h b =
      let e : f (i + (k - i)) ≡ f k = ap f (omega arith) in
      let so_far = climb i (k - i) (omega arith) in
      omega arith
