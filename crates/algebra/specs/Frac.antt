-- Fractions: a whole numerator over a natural denominator that is at least 1, compared by cross-multiplying.
use Rattle.std.specs.Prelude.{◌≡◌, ℕ, ◌+◌, ◌-◌, ◌*◌, ◌/◌, ◌<◌, ◌≤◌, max, ℤ, pos, ◌+ℤ◌, ◌*ℤ◌, ◌≤ℤ◌}
use Rattle.std.proofs.Common.{mul-pos, arith}

pub record Frac : Type 0 where
  pub num : ℤ
  pub den : ℕ
  pub some : 0 < den

infix 50 ◌≤F◌ ◌≈F◌
-- a record, so that antt infers the two fractions from a proof
pub record ◌≤F◌ (a b : Frac) : Type 0 where
  pub cross : (a.num *ℤ pos b.den) ≤ℤ (b.num *ℤ pos a.den)

abbrev pub ◌≈F◌ : Frac → Frac → Type 0
a ≈F b = a.num *ℤ pos b.den ≡ b.num *ℤ pos a.den

-- fractions of one value, by the order
abbrev pub Same : Frac → Frac → Type 0
Same a b = (a ≤F b) × (b ≤F a)

abbrev pub whole : ℤ → Frac
whole k = record { num = k; den = 1; some = omega arith }

-- n / d, where d is not 0
abbrev pub over : ℤ → ℕ → Frac
over n d = record { num = n; den = max 1 d; some = omega arith }

infixl 60 ◌+F◌
abbrev pub ◌+F◌ : Frac → Frac → Frac
a +F b = record { num = a.num *ℤ pos b.den +ℤ b.num *ℤ pos a.den; den = a.den * b.den; some = mul-pos a.some b.some }

-- k times a fraction
infixl 70 ◌·F◌
abbrev pub ◌·F◌ : ℕ → Frac → Frac
k ·F a = record { num = a.num *ℤ pos k; den = a.den; some = a.some }

-- n / d rounded up
abbrev pub ceil : ℕ → ℕ → ℕ
ceil n d = (n + (d - 1)) / d

abbrev pub Trans : Type 0
Trans = (a b c : Frac) → a ≤F b → b ≤F c → a ≤F c

abbrev pub Adds : Type 0
Adds = (a b c d : Frac) → a ≤F b → c ≤F d → a +F c ≤F b +F d

abbrev pub Scales : Type 0
Scales = (k : ℕ) (a b : Frac) → a ≤F b → k ·F a ≤F k ·F b

-- the least whole number that n / d does not exceed
abbrev pub Ceil : Type 0
Ceil = (n d k : ℕ) → 0 < d → ((ceil n d ≤ k) → (n ≤ k * d)) × ((n ≤ k * d) → (ceil n d ≤ k))
