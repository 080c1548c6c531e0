-- Sums of fractions, part by part and in the opposite order.
use Rattle.std.proofs.Common.{◌≡◌, ℕ, zero, suc, ◌-◌, ◌<◌, [], ◌∷◌, pos, refl, ap, subst₂, arith}
use Rattle.algebra.specs.Frac.{Frac, Same, ◌+F◌, ◌·F◌, whole}
use Rattle.algebra.specs.Sums.{totalF}
use Rattle.algebra.proofs.Frac.{scales, same_refl, same_trans, same_adds, from_≈, swapped}
use Rattle.algebra.proofs.Ring.{var, ◌:+◌, ◌:*◌, ring}
use Rattle.statement.proofs.Owners.{totalF_cong}

grouped : (f g h : Frac) → Same ((f +F g) +F h) (f +F (g +F h))
grouped f g h =
    let A = var 0 in
    let B = var 1 in
    let C = var 2 in
    let x = var 3 in
    let y = var 4 in
    let z = var 5 in
    from_≈ _ _ (ring (f.num ∷ g.num ∷ h.num ∷ pos f.den ∷ pos g.den ∷ pos h.den ∷ [])
    (((A :* y :+ B :* x) :* z :+ C :* (x :* y)) :* (x :* (y :* z))) ((A :* (y :* z) :+ (B :* z :+ C :* y) :* x) :* (x :* y :* z)) refl)

first_apart : (n : ℕ) (f : ℕ → Frac) → Same (totalF (suc n) f) (f 0 +F totalF n (λ i. f (suc i)))
first_apart zero f = swapped (whole (pos 0)) (f 0)
first_apart (suc n) f =
    same_trans _ ((f 0 +F totalF n (λ i. f (suc i))) +F f (suc n)) _
    (same_adds (totalF (suc n) f) _ (f (suc n)) (f (suc n)) (first_apart n f) (same_refl (f (suc n))))
    (grouped (f 0) (totalF n (λ i. f (suc i))) (f (suc n)))

pub turned_round : (n : ℕ) (f : ℕ → Frac) → Same (totalF n f) (totalF n (λ j. f (n - 1 - j)))
turned_round zero f = same_refl (whole (pos 0))
turned_round (suc n) f =
    let later : ℕ → Frac = λ i. f (suc i) in
    let e : totalF n (λ j. later (n - 1 - j)) ≡ totalF n (λ j. f (suc n - 1 - j)) = totalF_cong n _ _ (λ j h. ap f (omega arith)) in
    let o : f 0 ≡ f (suc n - 1 - n) = ap f (omega arith) in
    same_trans _ (f 0 +F totalF n later) _ (first_apart n f)
    (same_trans _ (totalF n later +F f 0) _ (swapped (f 0) (totalF n later))
    (subst₂ (λ (a b : Frac). Same (totalF n later +F f 0) (a +F b)) e o (same_adds _ _ (f 0) (f 0) (turned_round n later) (same_refl (f 0)))))

pub each_same : (n : ℕ) (f h : ℕ → Frac) → ((i : ℕ) → i < n → Same (f i) (h i)) → Same (totalF n f) (totalF n h)
each_same zero f h each = same_refl (whole (pos 0))
each_same (suc n) f h each = same_adds (totalF n f) (totalF n h) (f n) (h n) (each_same n f h (λ i l. each i (omega arith))) (each n (omega arith))

pub same_times : (k : ℕ) (f h : Frac) → Same f h → Same (k ·F f) (k ·F h)
same_times k f h e = (scales k f h e.0, scales k h f e.1)
