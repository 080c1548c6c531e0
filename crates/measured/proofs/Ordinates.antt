-- The verdict on a record's ordinates: the first that is out of range is told.
use Rattle.std.proofs.Common.{◌≡◌, ℕ, zero, suc, ◌+◌, ◌<◌, ◌≤◌, ltb, List, [], ◌∷◌, length, get_or, ℤ, pos, nat_abs, Ok, Err, refl, ap, ◌∙◌, arith}
use Rattle.std.proofs.lemmas.Bool.{cond-true, cond-false, lt-ltb, le-ltb}
use Rattle.measured.specs.Judged.{ordinates_judged}
use Rattle.surface.specs.declared.fault.SurfaceFault.TheVariants.{Ordinate}

pub ordinates_bad : (line f : ℕ) (vs : List ℤ) (i : ℕ) → i < length vs → ((k : ℕ) → k < i → nat_abs (get_or vs k (pos 0)) ≤ 100000) → 100000 < nat_abs (get_or vs i (pos 0)) → ordinates_judged line f vs ≡ Err (Ordinate line (i + f))
ordinates_bad line f [] i h low out = absurd (omega arith)
ordinates_bad line f (v ∷ vs) zero h low out = cond-true (ltb 100000 (nat_abs v)) _ _ (lt-ltb _ _ out) ∙ ap (λ n. Err (Ordinate line n)) (omega arith)
ordinates_bad line f (v ∷ vs) (suc i) h low out =
    cond-false (ltb 100000 (nat_abs v)) _ _ (le-ltb _ _ (low 0 (omega arith)))
    ∙ ordinates_bad line (f + 1) vs i (omega arith) (λ k l. low (suc k) (omega arith)) out
    ∙ ap (λ n. Err (Ordinate line n)) (omega arith)

pub ordinates_all : (line f : ℕ) (vs : List ℤ) → ((k : ℕ) → k < length vs → nat_abs (get_or vs k (pos 0)) ≤ 100000) → ordinates_judged line f vs ≡ Ok tt
ordinates_all line f [] low = refl
ordinates_all line f (v ∷ vs) low =
    cond-false (ltb 100000 (nat_abs v)) _ _ (le-ltb _ _ (low 0 (omega arith)))
    ∙ ordinates_all line (f + 1) vs (λ k l. low (suc k) (omega arith))
