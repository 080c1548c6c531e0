-- What the tests on counts and places say of the numbers.
use Rattle.std.proofs.Common.{◌≡◌, ℕ, ◌<◌, ◌≤◌, true, false, cond, eqb, ◌≢◌, ℤ, pos, negsuc, nat_abs, sym, refl, ◌∙◌, arith}
use lib.Signed.{lt_z, le_z, non_neg}
use Rattle.std.proofs.lemmas.Bool.{ltb-true, ltb-false, eqb-true, and_parts, cond-true, cond-false, eq-eqb, ne_eqb}
use Rattle.surface.specs.Stations.{place_fits}

-- 60 to 300 slices
pub slices_counted : (n : ℤ) → lt_z n (pos 60) ≡ false → lt_z (pos 300) n ≡ false → (pos (nat_abs n) ≡ n) × (60 ≤ nat_abs n) × (nat_abs n ≤ 300)
slices_counted (pos n) wide narrow = (refl, ltb-false n 60 wide, ltb-false 300 n narrow)
slices_counted (negsuc n) wide narrow = absurd (grind arith)

natural : (z : ℤ) → le_z (pos 0) z ≡ true → non_neg z ≡ true
natural (pos z) e = refl
natural (negsuc z) e = absurd (grind arith)

low : (z : ℤ) → le_z (pos 0) z ≡ true → lt_z z (pos 200000) ≡ true → nat_abs z < 200000
low (pos z) e h = ltb-true z 200000 h
low (negsuc z) e h = absurd (grind arith)

risen : (b z : ℤ) → non_neg b ≡ true → lt_z b z ≡ true → nat_abs b < nat_abs z
risen (pos b) (pos z) n h = ltb-true b z h
risen (pos b) (negsuc z) n h = absurd (grind arith)
risen (negsuc b) z n h = absurd (grind arith)

module _ (k : ℕ) (b z : ℤ) (e : place_fits k b z ≡ true) where
  parts : (le_z (pos 0) z ≡ true) × (lt_z z (pos 200000) ≡ true) × (cond (eqb k 0) (eqb (nat_abs z) 0) (lt_z b z) ≡ true)
  parts =
      let a = and_parts (le_z (pos 0) z) _ e in
      let c = and_parts (lt_z z (pos 200000)) _ a.1 in
      (a.0, c.0, c.1)

  pub place_natural : non_neg z ≡ true
  place_natural = natural z parts.0

  pub place_low : nat_abs z < 200000
  place_low = low z parts.0 parts.1

  pub place_first : k ≡ 0 → nat_abs z ≡ 0
  place_first h = eqb-true (nat_abs z) 0 (sym (cond-true (eqb k 0) _ (lt_z b z) (eq-eqb k 0 h)) ∙ parts.2)

  pub place_risen : k ≢ 0 → non_neg b ≡ true → nat_abs b < nat_abs z
  place_risen h n = risen b z n (sym (cond-false (eqb k 0) (eqb (nat_abs z) 0) _ (ne_eqb k 0 h)) ∙ parts.2)
