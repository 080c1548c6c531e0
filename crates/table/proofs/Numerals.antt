-- The number that digits write: one digit more, its bound, and that it is determined.
use Rattle.std.proofs.Common.{◌≡◌, ℕ, zero, suc, ◌+◌, ◌-◌, ◌*◌, ◌^◌, ◌<◌, ◌≤◌, List, [], ◌∷◌, ◌++◌, length, get_or, take, drop, ℤ, pos, ◌-ℤ◌, neg_ℤ, sym, ap, ◌∙◌, subst, mul-le-mul_right, pow-suc, arith, w32, SFits, to_z}
use native.Mathlib.Nat.{pow-le-pow_right}
use lib.IntN.{+ℤ_idl}
use Rattle.std.proofs.lemmas.Int.{to_z_pos}
use Rattle.std.specs.List.{AllByRecursion}
use Rattle.std.proofs.lemmas.List.{length_push, length-take-le, take_more}
use Rattle.table.proofs.Turns.{begins_with}
use Rattle.table.specs.Numbers.{Digit, value, Numeral, Writes, unsigned, minus, Counts}

pub value_push : (ds : List ℕ) (d : ℕ) → value (ds ++ (d ∷ [])) ≡ value ds * 10 + (d - 48)
value_push [] d = omega arith
value_push (b ∷ bs) d =
    let more = value_push bs d in
    let size = length_push bs d in
    let on : length bs + 1 ≡ suc (length bs) = omega arith in
    let power : 10 ^ length (bs ++ (d ∷ [])) ≡ 10 ^ length bs * 10 = ap (λ n. 10 ^ n) (size ∙ on) ∙ pow-suc 10 (length bs) in
    rw (power, more) (omega arith)

pub value_lt : (ds : List ℕ) → AllByRecursion Digit ds → value ds < 10 ^ length ds
value_lt [] h = omega arith
value_lt (b ∷ bs) h =
    let less = value_lt bs h.1 in
    let nine : b - 48 ≤ 9 = omega (arith, h.0.1) in
    rw (pow-suc 10 (length bs)) (omega (arith, mul-le-mul_right (10 ^ length bs) nine))

pub numeral_lt : {most n : ℕ} {bs : List ℕ} → Numeral most bs n → n < 10 ^ most
numeral_lt {most} {n} {bs} w =
    let few : 10 ^ length bs ≤ 10 ^ most = pow-le-pow_right (omega arith) w.few in
    omega (arith, w.writes, value_lt bs w.digits)

-- one digit more of the digits bs, after the first i
pub value_more : (bs : List ℕ) (i : ℕ) → i < length bs → value (take (i + 1) bs) ≡ value (take i bs) * 10 + (get_or bs i 0 - 48)
value_more bs i l = ap value (take_more bs i 0 l) ∙ value_push (take i bs) (get_or bs i 0)

-- before the last of nineteen digits there is room for one more in 64 bits
pub room : (bs : List ℕ) (i : ℕ) → i < length bs → length bs ≤ 19 → AllByRecursion Digit (take i bs) → value (take i bs) < 10 ^ 18
room bs i l few h =
    let size = length-take-le i bs (omega arith) in
    let short : length (take i bs) ≤ 18 = omega arith in
    let less : 10 ^ length (take i bs) ≤ 10 ^ 18 = pow-le-pow_right (omega arith) short in
    omega (arith, value_lt (take i bs) h)

-- a minus is no digit
pub minus_first : {most n : ℕ} {ds : List ℕ} → Numeral most (45 ∷ ds) n → ⊥
minus_first w = omega (arith, w.digits.0.0)

pub writes_unique : {bs : List ℕ} {v w : ℤ} → Writes bs v → Writes bs w → v ≡ w
writes_unique (unsigned n a e) (unsigned m b f) = let p = a.writes in let q = b.writes in cc
writes_unique (unsigned n a e) (minus ds m s b f) = absurd (minus_first (subst (λ l. Numeral 7 l n) s a))
writes_unique (minus ds n s a e) (unsigned m b f) = absurd (minus_first (subst (λ l. Numeral 7 l m) s b))
writes_unique (minus ds n s a e) (minus es m t b f) = let p = a.writes in let q = b.writes in cc

pub counts_unique : {bs : List ℕ} {n m : ℕ} → Counts bs n → Counts bs m → n ≡ m
counts_unique a b = a.numeral.writes ∙ sym b.numeral.writes

pub writes_minus : (bs : List ℕ) (n : ℕ) → 0 < length bs → get_or bs 0 0 ≡ 45 → Numeral 7 (take (length bs - 1) (drop 1 bs)) n → (v : ℤ) → v ≡ neg_ℤ (pos n) → Writes bs v
writes_minus bs n l e w v is = minus (take (length bs - 1) (drop 1 bs)) n (begins_with 45 bs l e) w is

-- seven digits, and their negative, in 32 bits
pub fits_pos : (n : ℕ) → n < 10 ^ 7 → SFits w32 (pos n)
fits_pos n h = record { sfits = omega arith }

fits_neg : (n : ℕ) → n < 10 ^ 7 → SFits w32 (neg_ℤ (pos n))
fits_neg zero h = record { sfits = omega arith }
fits_neg (suc n) h = record { sfits = omega arith }

pub cast_pos : (n : ℕ) → n < 10 ^ 7 → to_z w32 n ≡ pos n
cast_pos n h = to_z_pos w32 n (omega arith)

pub cast_neg : (n : ℕ) → n < 10 ^ 7 → pos 0 -ℤ to_z w32 n ≡ neg_ℤ (pos n)
cast_neg n h = ap (λ z. pos 0 -ℤ z) (cast_pos n h) ∙ +ℤ_idl (neg_ℤ (pos n))

pub fits_cast_neg : (n : ℕ) → n < 10 ^ 7 → SFits w32 (pos 0 -ℤ to_z w32 n)
fits_cast_neg n h = subst (SFits w32) (sym (cast_neg n h)) (fits_neg n h)
