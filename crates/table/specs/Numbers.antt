-- Which bytes write a whole number, and which number they write.
use Rattle.std.specs.Prelude.{◌≡◌, ℕ, ◌+◌, ◌-◌, ◌*◌, ◌^◌, ◌<◌, ◌≤◌, List, [], ◌∷◌, length, ℤ, pos, neg_ℤ}
use Rattle.std.specs.List.{AllByRecursion}

abbrev pub Digit : ℕ → Type 0
Digit b = (48 ≤ b) × (b ≤ 57)

-- each digit counts as often as ten to the number of digits after it
abbrev pub value : List ℕ → ℕ
value [] = 0
value (b ∷ bs) = (b - 48) * 10 ^ length bs + value bs

-- from one to `most` digits, and they write n
pub record Numeral (most : ℕ) (bs : List ℕ) (n : ℕ) : Type 0 where
  pub digits : AllByRecursion Digit bs
  pub some : 1 ≤ length bs
  pub few : length bs ≤ most
  pub writes : n ≡ value bs

-- the bytes write the whole number v: one to seven digits, perhaps after a minus
pub data Writes (bs : List ℕ) (v : ℤ) : Type 0 where
  unsigned : (n : ℕ) → Numeral 7 bs n → v ≡ pos n → Writes bs v
  minus : (ds : List ℕ) (n : ℕ) → bs ≡ 45 ∷ ds → Numeral 7 ds n → v ≡ neg_ℤ (pos n) → Writes bs v

-- the bytes write the natural number n: one to ten digits, and n is below 2 ^ 32
pub record Counts (bs : List ℕ) (n : ℕ) : Type 0 where
  pub numeral : Numeral 10 bs n
  pub small : n < 2 ^ 32
