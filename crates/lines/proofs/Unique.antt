-- T and its place are fixed by the line.
use Rattle.std.proofs.Common.{◌≡◌, ℕ, ◌+◌, ◌*◌, ◌<◌, ◌≤◌, pos, Some, None, Option, refl, ap, subst, ⊎_elim, arith}
use Rattle.std.proofs.lemmas.Int.{ints}
use Rattle.std.proofs.lemmas.Bool.{cases_order, cases_lt}
use Rattle.algebra.specs.Frac.{Frac, ◌≤F◌, whole, ◌·F◌}
use Rattle.algebra.proofs.Frac.{trans, scales}
use Rattle.lines.specs.Lines.{Line, last, axles, Stands, Greatest, Placed, IsTandem}
use Rattle.lines.specs.Facts.{TandemUnique, TandemPositive}

stood : (d : Line) (c : ℕ) → c + 1200 ≤ last d → Stands d c 1
stood d c h = record { some = omega arith; fits = omega arith }

not_before : (d : Line) (c e : ℕ) → Greatest d c → Greatest d e → c < e → ⊥
not_before d c e g h l = h.first c 1 (stood d c g.fits) (omega arith) (g.most e 1 (stood d e h.fits))

same_place : (d : Line) (p q : Option ℕ) → Placed d p → Placed d q → p ≡ q
same_place d (Some c) (Some e) g h =
    ⊎_elim (λ i. ap Some i) (⊎_elim (λ l. absurd (not_before d c e g h l)) (λ l. absurd (not_before d e c h g l))) (cases_order c e)
same_place d (Some c) None g h = absurd (g.positive (h c 1 (stood d c g.fits)))
same_place d None (Some e) g h = absurd (h.positive (g e 1 (stood d e h.fits)))
same_place d None None g h = refl

pub one_tandem : TandemUnique
one_tandem d t u p q g h = (omega (arith, g.least u h.bound, h.least t g.bound), same_place d p q g.place h.place)

-- where no sum is positive, 0 is enough
no_more : (d : Line) (t : ℕ) → IsTandem d t None → t ≤ 0
no_more d t h = h.least 0 (λ a b S. trans (scales 10000 _ _ (h.place a b S)) (record { cross = omega (arith, ints) }))

-- what is at most 0 ten thousand times is at most 0
not_scaled : (f : Frac) → 10000 ·F f ≤F whole (pos 0) → f ≤F whole (pos 0)
not_scaled f h = record { cross = omega (arith, ints, h.cross) }

above : (d : Line) (t c : ℕ) → IsTandem d t (Some c) → t ≡ 0 → ⊥
above d t c h e = h.place.positive (not_scaled (axles d c 1) (subst (λ (i : ℕ). 10000 ·F axles d c 1 ≤F whole (pos i)) e (h.bound c 1 (stood d c h.place.fits))))

pub positive : TandemPositive
positive = record { none = λ d t h. omega (arith, no_more d t h); some = λ d t c h. ⊎_elim (λ e. absurd (above d t c h (omega arith))) (λ l. l) (cases_lt t 1) }

-- a line too short for a tandem, and one that is just long enough
pub none_fits : (d : Line) → last d ≡ 1199 → (a b : ℕ) → Stands d a b → ⊥
none_fits d e a b S = omega (arith, S.some, S.fits, ap (λ (i : ℕ). i * b) e)

pub one_fits : (d : Line) → last d ≡ 1200 → (a b : ℕ) → Stands d a b → a ≡ 0
one_fits d e a b S = omega (arith, S.some, S.fits, ap (λ (i : ℕ). i * b) e)

pub no_tandem : (d : Line) → last d ≡ 1199 → (t : ℕ) (p : Option ℕ) → IsTandem d t p → (t ≡ 0) × (p ≡ None)
no_tandem d e t (Some c) h = absurd (none_fits d e c 1 (stood d c h.place.fits))
no_tandem d e t None h = (positive.none d t h, refl)
