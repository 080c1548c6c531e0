-- How a verdict over many items goes: the first item decides, or the rest does; and what a verdict that passes says of each.
use Rattle.std.proofs.Common.{◌≡◌, ℕ, zero, suc, ◌+◌, ◌-◌, ◌<◌, Bool, true, false, cond, Ok, Err, refl, ap, ◌∙◌, arith}
use Rattle.surface.specs.Verdict.{Verdict, and_then, each_judged, Answered}
use Rattle.surface.specs.declared.fault.SurfaceFault.{SurfaceFault}

each_more : (f : ℕ → Verdict) (k t : ℕ) → k < t → each_judged f k (t - k) ≡ and_then (f k) (each_judged f (k + 1) (t - (k + 1)))
each_more f k t h = ap (each_judged f k) (let e : t - k ≡ suc (t - (k + 1)) = omega arith in e)

-- item k is faulty
pub each_bad : (f : ℕ → Verdict) (k t : ℕ) (e : SurfaceFault) → k < t → f k ≡ Err e → each_judged f k (t - k) ≡ Err e
each_bad f k t e h is = each_more f k t h ∙ ap (λ (v : Verdict). and_then v (each_judged f (k + 1) (t - (k + 1)))) is

-- item k passes
pub each_on : (f : ℕ → Verdict) (k t : ℕ) (x : Unit {0}) → k < t → f k ≡ Ok x → each_judged f k (t - k) ≡ each_judged f (k + 1) (t - (k + 1))
each_on f k t x h is = each_more f k t h ∙ ap (λ (v : Verdict). and_then v (each_judged f (k + 1) (t - (k + 1)))) is

clash : {X : Type 0} (x : Unit {0}) (f : SurfaceFault) → ◌≡◌ {A = Verdict} (Ok x) (Err f) → X
clash x f e = let z : ◌≡◌ {A = ℕ} 0 1 = cc in absurd (omega arith)

-- a test that refuses was not met
pub passed : (b : Bool) (x : Unit {0}) (f : SurfaceFault) (v : Verdict) → Ok x ≡ cond b (Err f) v → (b ≡ false) × (Ok x ≡ v)
passed true x f v e = clash x f e
passed false x f v e = (refl, e)

-- a test that must be met was met
pub passed_on : (b : Bool) (x : Unit {0}) (f : SurfaceFault) (v : Verdict) → Ok x ≡ cond b v (Err f) → (b ≡ true) × (Ok x ≡ v)
passed_on true x f v e = (refl, e)
passed_on false x f v e = clash x f e

pub passed_both : (u v : Verdict) (x : Unit {0}) → Ok x ≡ and_then u v → (Ok x ≡ u) × (Ok x ≡ v)
passed_both (Ok y) v x e = (refl, e)
passed_both (Err f) v x e = clash x f e

each_fine : (f : ℕ → Verdict) (k t : ℕ) (x : Unit {0}) → Ok x ≡ each_judged f k t → (j : ℕ) → j < t → Ok x ≡ f (k + j)
each_fine f k zero x e j h = absurd (omega arith)
each_fine f k (suc t) x e zero h = (passed_both (f k) _ x e).0 ∙ ap f (omega arith)
each_fine f k (suc t) x e (suc j) h = each_fine f (k + 1) t x (passed_both (f k) _ x e).1 j (omega arith) ∙ ap f (omega arith)

-- each item of those that pass together passes
pub each_passed : (f : ℕ → Verdict) (t : ℕ) (x : Unit {0}) → Ok x ≡ each_judged f 0 t → (j : ℕ) → j < t → Ok x ≡ f j
each_passed f t x e j h = each_fine f 0 t x e j h ∙ ap f (omega arith)

-- what a verdict that passes is answered by
pub answered : (v : Verdict) (x : Unit {0}) (made kept : Type 0) → Ok x ≡ v → made → Answered v (Ok tt) made kept
answered (Ok y) x made kept e m = (refl, m)
answered (Err f) x made kept e m = clash x f e
