-- The laws of fractions: their order, equal values, sums and multiples.
use Rattle.std.proofs.Common.{ℕ, ◌+◌, ◌*◌, [], ◌∷◌, pos, refl, arith}
use lib.Signed.{≤ℤ_refl}
use Rattle.std.proofs.lemmas.Int.{ints}
use Rattle.algebra.specs.Frac.{Frac, ◌≤F◌, ◌≈F◌, Same, whole, ◌+F◌, Scales}
use Rattle.algebra.proofs.IntLaws.{*ℤ-cancel, *ℤ-mono, +ℤ-mono}
use Rattle.algebra.proofs.Ring.{var, num, ◌:+◌, ◌:*◌, ring, moved}

-- by cross-multiplying, and cancelling the middle denominator
pub trans : {a b c : Frac} → a ≤F b → b ≤F c → a ≤F c
trans {a} {b} {c} h k =
    let ρ = a.num ∷ b.num ∷ c.num ∷ pos a.den ∷ pos b.den ∷ pos c.den ∷ [] in
    let A = var 0 in
    let B = var 1 in
    let C = var 2 in
    let x = var 3 in
    let y = var 4 in
    let z = var 5 in
    record {
      cross = *ℤ-cancel b.den _ _ b.some
          (moved ρ (A :* y :* z :+ B :* z :* x) (B :* x :* z :+ C :* y :* x) (A :* z :* y) (C :* x :* y) refl
          (+ℤ-mono (*ℤ-mono c.den _ _ h.cross) (*ℤ-mono a.den _ _ k.cross)));
    }

pub adds : {a b c d : Frac} → a ≤F b → c ≤F d → a +F c ≤F b +F d
adds {a} {b} {c} {d} h k =
    let ρ = a.num ∷ b.num ∷ c.num ∷ d.num ∷ pos a.den ∷ pos b.den ∷ pos c.den ∷ pos d.den ∷ [] in
    let A = var 0 in
    let B = var 1 in
    let C = var 2 in
    let D = var 3 in
    let x = var 4 in
    let y = var 5 in
    let z = var 6 in
    let w = var 7 in
    record {
      cross = moved ρ (A :* y :* (z :* w) :+ C :* w :* (x :* y)) (B :* x :* (z :* w) :+ D :* z :* (x :* y))
          ((A :* z :+ C :* x) :* (y :* w)) ((B :* w :+ D :* y) :* (x :* z)) refl
          (+ℤ-mono (*ℤ-mono (c.den * d.den) _ _ h.cross) (*ℤ-mono (a.den * b.den) _ _ k.cross));
    }

pub refl_≤ : (a : Frac) → a ≤F a
refl_≤ a = record { cross = ≤ℤ_refl _ }

pub scales : Scales
scales k a b h =
    record {
      cross = moved (a.num ∷ b.num ∷ pos a.den ∷ pos b.den ∷ pos k ∷ []) (var 0 :* var 3 :* var 4) (var 1 :* var 2 :* var 4) (var 0 :* var 4 :* var 3) (var 1 :* var 4 :* var 2) refl
          (*ℤ-mono k _ _ h.cross);
    }

-- ---- the same value
pub same_refl : (f : Frac) → Same f f
same_refl f = (refl_≤ f, refl_≤ f)

pub same_sym : (f g : Frac) → Same f g → Same g f
same_sym f g p = (p.1, p.0)

pub same_trans : (f g h : Frac) → Same f g → Same g h → Same f h
same_trans f g h p q = (trans p.0 q.0, trans q.1 p.1)

pub same_adds : (f g h k : Frac) → Same f g → Same h k → Same (f +F h) (g +F k)
same_adds f g h k p q = (adds p.0 q.0, adds p.1 q.1)

pub from_≈ : (f g : Frac) → f ≈F g → Same f g
from_≈ f g e = (record { cross = omega (arith, ints) }, record { cross = omega (arith, ints) })

-- ---- sums in another order
pub swapped : (f g : Frac) → Same (f +F g) (g +F f)
swapped f g =
    from_≈ _ _ (ring (f.num ∷ g.num ∷ pos f.den ∷ pos g.den ∷ [])
    ((var 0 :* var 3 :+ var 1 :* var 2) :* (var 3 :* var 2)) ((var 1 :* var 2 :+ var 0 :* var 3) :* (var 2 :* var 3)) refl)

pub regroup : (a b c d : Frac) → ((a +F b) +F (c +F d)) ≤F ((a +F c) +F (b +F d))
regroup a b c d =
    let ρ = a.num ∷ b.num ∷ c.num ∷ d.num ∷ pos a.den ∷ pos b.den ∷ pos c.den ∷ pos d.den ∷ [] in
    let A = var 0 in
    let B = var 1 in
    let C = var 2 in
    let D = var 3 in
    let x = var 4 in
    let y = var 5 in
    let z = var 6 in
    let w = var 7 in
    record {
      cross = moved ρ (num (pos 0)) (num (pos 0))
          (((A :* y :+ B :* x) :* (z :* w) :+ (C :* w :+ D :* z) :* (x :* y)) :* ((x :* z) :* (y :* w)))
          (((A :* z :+ C :* x) :* (y :* w) :+ (B :* w :+ D :* y) :* (x :* z)) :* ((x :* y) :* (z :* w))) refl (≤ℤ_refl _);
    }

-- ---- whole numbers
pub join : (a b : ℕ) → (whole (pos a) +F whole (pos b)) ≤F whole (pos (a + b))
join a b = record { cross = omega (arith, ints) }

pub split : (a b : ℕ) → whole (pos (a + b)) ≤F (whole (pos a) +F whole (pos b))
split a b = record { cross = omega (arith, ints) }
