-- Laws of products and of the order over ℤ.
use Rattle.std.proofs.Common.{◌≡◌, ℕ, ◌+◌, ◌*◌, ◌<◌, ◌≤◌, ℤ, pos, negsuc, ◌+ℤ◌, ◌*ℤ◌, neg_ℤ, ◌≤ℤ◌, ap, ◌∙◌, subst, zero-le, mul-le-mul_right, le_of_mul-le-mul_right, arith, le→leb}
use lib.Signed.{le_z_yes}
use Rattle.std.proofs.lemmas.Int.{ints}
use lib.IntN.{*ℤ_comm, neg_ℤ-neg_ℤ}
use borrow.Author.Differences.{up, down, same_in, sum_is_lem, neg_is, product_is, le_out, at_most_in}

pub up_product : (a b : ℤ) → up (a *ℤ b) ≡ up a * up b + down a * down b
up_product a b = (product_is a b).0

pub down_product : (a b : ℤ) → down (a *ℤ b) ≡ up a * down b + down a * up b
down_product a b = (product_is a b).1

pub *ℤ-assoc : (a b c : ℤ) → (a *ℤ b) *ℤ c ≡ a *ℤ (b *ℤ c)
*ℤ-assoc a b c = same_in _ _ (simp (up_product, down_product) (omega arith))

pub *ℤ-left : (a b c : ℤ) → a *ℤ (b *ℤ c) ≡ b *ℤ (a *ℤ c)
*ℤ-left a b c = same_in _ _ (simp (up_product, down_product) (omega arith))

pub *ℤ-add : (a b c : ℤ) → (a +ℤ b) *ℤ c ≡ a *ℤ c +ℤ b *ℤ c
*ℤ-add a b c =
    let s = sum_is_lem a b in
    omega (arith, same_in, sum_is_lem (a *ℤ c) (b *ℤ c), product_is, ap (λ x. x * up c) s, ap (λ x. x * down c) s)

pub negℤ-* : (a b : ℤ) → neg_ℤ a *ℤ b ≡ neg_ℤ (a *ℤ b)
negℤ-* a b = omega (arith, same_in, product_is, neg_is, ap (λ x. x * up b) (neg_is a).0, ap (λ x. x * down b) (neg_is a).0, ap (λ x. x * up b) (neg_is a).1, ap (λ x. x * down b) (neg_is a).1)

pub *ℤ-add' : (a b c : ℤ) → a *ℤ (b +ℤ c) ≡ a *ℤ b +ℤ a *ℤ c
*ℤ-add' a b c =
    let s = sum_is_lem b c in
    omega (arith, same_in, sum_is_lem (a *ℤ b) (a *ℤ c), product_is, ap (λ x. x * up a) s, ap (λ x. x * down a) s)

pub one-*ℤ : (a : ℤ) → pos 1 *ℤ a ≡ a
one-*ℤ a = omega (arith, same_in, product_is)

-- ---- order
pub +ℤ-mono : {a b c d : ℤ} → a ≤ℤ b → c ≤ℤ d → (a +ℤ c) ≤ℤ (b +ℤ d)
+ℤ-mono {a} {b} {c} {d} h k = omega (arith, ints)

pub *ℤ-nonneg : (x y : ℤ) → pos 0 ≤ℤ x → pos 0 ≤ℤ y → pos 0 ≤ℤ (x *ℤ y)
*ℤ-nonneg (pos x) (pos y) h k = le_z_yes (le→leb 0 (x * y) zero-le)
*ℤ-nonneg (pos x) (negsuc y) h k = absurd k.le
*ℤ-nonneg (negsuc x) y h k = absurd h.le

-- the factor is a natural
pub *ℤ-mono : (k : ℕ) (a b : ℤ) → a ≤ℤ b → (a *ℤ pos k) ≤ℤ (b *ℤ pos k)
*ℤ-mono k a b h = omega (arith, at_most_in, product_is, mul-le-mul_right k (le_out a b h))

pub *ℤ-cancel : (k : ℕ) (a b : ℤ) → 0 < k → (a *ℤ pos k) ≤ℤ (b *ℤ pos k) → a ≤ℤ b
*ℤ-cancel k a b p h =
    let t : (up a + down b) * k ≤ (up b + down a) * k = omega (arith, le_out (a *ℤ pos k) (b *ℤ pos k) h, product_is) in
    omega (arith, at_most_in, le_of_mul-le-mul_right t p)

pub *ℤ-nonpos : (x y : ℤ) → x ≤ℤ pos 0 → y ≤ℤ pos 0 → pos 0 ≤ℤ (x *ℤ y)
*ℤ-nonpos x y h k =
    let e : neg_ℤ x *ℤ neg_ℤ y ≡ x *ℤ y = negℤ-* x (neg_ℤ y) ∙ ap neg_ℤ (*ℤ_comm x (neg_ℤ y) ∙ negℤ-* y x ∙ ap neg_ℤ (*ℤ_comm y x)) ∙ neg_ℤ-neg_ℤ _ in
    subst (λ (z : ℤ). pos 0 ≤ℤ z) e (*ℤ-nonneg (neg_ℤ x) (neg_ℤ y) (omega (arith, ints)) (omega (arith, ints)))
