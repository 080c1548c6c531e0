-- The count of paths before a slice says between which two paths it lies.
use Rattle.std.proofs.Common.{◌≡◌, ℕ, ◌+◌, ◌-◌, ◌<◌, ◌≤◌, eqb, ltb, ◌≢◌, List, get_or, take, pos, refl, ap, ◌∙◌, arith}
use Rattle.std.proofs.lemmas.List.{length-take-le, get_or-take}
use Rattle.std.proofs.lemmas.List.Sums.{prefix_len_is}
use Rattle.surface.specs.Rising.{rises}
use Rattle.std.proofs.lemmas.Bool.{lt-ltb, le-ltb, cond-true, cond-false, eq-eqb, ne_eqb}
use Rattle.measured.specs.Laid.{Laid}
use Rattle.measured.specs.Spread.{before, between, spread_past}
use Rattle.measured.specs.Spreading.{BetweenPaths, LeftOfPaths, RightOfPaths}

module _ (n m : ℕ) (ps : List ℕ) (w : Laid n m ps) where
  pub ascending : (i k : ℕ) → i ≤ k → k < m → get_or ps i 0 ≤ get_or ps k 0
  ascending = rises (λ k. get_or ps k 0) m w.1

  module _ (j : ℕ) where
    -- as many paths lie before j as a path says that does, if the next one does not
    exactly : (i : ℕ) → i ≤ m → ((k : ℕ) → k + 1 ≡ i → get_or ps k 0 < j) → (i < m → j ≤ get_or ps i 0) → before m ps j ≡ i
    exactly i h low high =
        let long = length-take-le m ps w.0.4 in
        prefix_len_is (λ p. ltb p j) (take m ps) i 0 (omega arith)
        (λ k less.
        let here : k < m = omega arith in
        let up = ascending k (i - 1) (omega arith) (omega arith) in
        let last = low (i - 1) (omega arith) in
        simp get_or-take (lt-ltb (get_or ps k 0) j (omega arith)))
        (λ more.
        let here : i < m = omega arith in
        simp get_or-take (le-ltb (get_or ps i 0) j (high here)))

pub left_of_paths : LeftOfPaths
left_of_paths n m ps vs j w h =
    let e = exactly n m ps w j 0 (omega arith) (λ k z. absurd (omega arith)) (λ _. h) in
    ap (λ i. spread_past i m ps vs j) e

pub right_of_paths : RightOfPaths
right_of_paths n m ps vs j w h =
    let e = exactly n m ps w j m (omega arith) (λ k z. let same : get_or ps k 0 ≡ get_or ps (m - 1) 0 = ap (λ i. get_or ps i 0) (omega arith) in omega arith) (λ z. absurd (omega arith)) in
    let some : m ≢ 0 = λ z. (let s = w.0.2 in omega arith) in
    ap (λ i. spread_past i m ps vs j) e ∙ cond-false (eqb m 0) _ _ (ne_eqb m 0 some) ∙ cond-true (eqb m m) _ _ (eq-eqb m m refl)

pub between_paths : BetweenPaths
between_paths n m ps vs i j w h low high =
    let e = exactly n m ps w j (i + 1) (omega arith) (λ k z. let same : get_or ps k 0 ≡ get_or ps i 0 = ap (λ p. get_or ps p 0) (omega arith) in omega arith) (λ _. high) in
    let off : i + 1 ≢ 0 = λ z. omega arith in
    let inner : i + 1 ≢ m = λ z. omega arith in
    let back : i + 1 - 1 ≡ i = omega arith in
    ap (λ k. spread_past k m ps vs j) e
    ∙ cond-false (eqb (i + 1) 0) _ _ (ne_eqb (i + 1) 0 off)
    ∙ cond-false (eqb (i + 1) m) _ _ (ne_eqb (i + 1) m inner)
    ∙ ap (λ k. between (get_or ps k 0) (get_or vs k (pos 0)) (get_or ps (i + 1) 0) (get_or vs (i + 1) (pos 0)) j) back
