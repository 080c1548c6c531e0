-- One sum more.
use Rattle.std.proofs.Common.{◌≡◌, ℕ, ◌+◌, ◌-◌, ◌<◌, ◌≤◌, List, length, get_or, take, set, sym, ap, ◌∙◌, subst, ⊎_elim, arith, length-set, length-take}
use Rattle.std.proofs.lemmas.List.{get_or-set_same, get_or-set_other, get_or-take}
use Rattle.std.proofs.lemmas.Bool.{cases_eq}
use Rattle.algebra.specs.Sums.{total}
use Rattle.placing.proofs.Totals.{total_more}
use Rattle.loaded.proofs.making.running_sums.Goals as goal

abbrev Summed : List ℕ → List ℕ → ℕ → Type 0
Summed areas sums i = (k : ℕ) → k ≤ i → get_or sums k 0 ≡ total k (λ j. get_or areas j 0)

-- the item of the slices that are read
item : (areas : List ℕ) (n i : ℕ) → i < length (take (n - 0) areas) → n ≤ length areas → (i < n) × (get_or (take (n - 0) areas) i 0 ≡ get_or areas i 0)
item areas n i h long = let low : i < n = omega (arith, length-take (n - 0) areas) in (low, get_or-take (n - 0) areas i 0 (omega arith))

more : (areas sums : List ℕ) (i a : ℕ) → i + 1 < length sums → a ≡ get_or areas i 0 → Summed areas sums i → Summed areas (set sums (i + 1) (get_or sums i 0 + a)) (i + 1)
more areas sums i a room is s k h = ⊎_elim
    (λ (e : k ≡ i + 1). subst (λ (x : ℕ). get_or (set sums (i + 1) (get_or sums i 0 + a)) x 0 ≡ total x area) (sym e)
    (get_or-set_same sums (i + 1) (get_or sums i 0 + a) 0 room ∙ ap (λ x. x + a) (s i (omega arith)) ∙ ap (λ x. total i area + x) is ∙ sym (total_more i area)))
    (λ (e : k ≡ i + 1 → ⊥). get_or-set_other sums (i + 1) k (get_or sums i 0 + a) 0 e ∙ s k (omega arith))
    (cases_eq k (i + 1))
  where
    area : ℕ → ℕ
    area j = get_or areas j 0

pub overflow_add-sums : goal.overflow_add-sums
overflow_add-sums c =
    let t = item c.args.areas.now c.args.slices c.loop-i.i c.loop-i-test.true c.requires.long in
    let low : c.loop-i.i < 300 = omega (arith, t.0, c.requires.few) in
    omega (arith, t.1, c.requires.low c.loop-i.i t.0, c.loop-i.invariant.1)

pub loop-i-preserved : goal.loop-i-preserved
loop-i-preserved c =
    let sums = c.loop-i.sums in
    let i = c.loop-i.i in
    let t = item c.args.areas.now c.args.slices i c.loop-i-test.true c.requires.long in
    let a = get_or (take (c.args.slices - 0) c.args.areas.now) i 0 in
    let room : i + 1 < length sums = omega (arith, t.0, c.requires.few, c.loop-i.invariant.0) in
    let same = get_or-set_same sums (i + 1) (get_or sums i 0 + a) 0 room in (
      length-set sums (i + 1) (get_or sums i 0 + a) ∙ c.loop-i.invariant.0,
      omega (arith, same, t.1, c.requires.low i t.0, c.loop-i.invariant.1),
      more c.args.areas.now sums i a room t.1 c.loop-i.invariant.2,
    )
