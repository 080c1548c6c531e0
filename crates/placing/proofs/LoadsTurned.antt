-- Loads from the other kerb are the mirrored carriageway, where worths do not count the kerb.
use Rattle.std.proofs.Common.{◌≡◌, ℕ, ◌+◌, ◌-◌, ◌*◌, ◌≤◌, sym, ap, ◌∙◌, ap₂, arith}
use Rattle.algebra.proofs.Sums.{total_cong, total_reverse}
use Rattle.model.specs.Weights.{tandem_weight, uniform_weight}
use Rattle.model.specs.declared.owners.Owner.{Owner}
use Rattle.model.specs.declared.owners.Owner.TheVariants.{Remaining, Lane1, Lane2, Lane3, Other}
use Rattle.model.specs.declared.weights.Factors.{Factors}
use Rattle.model.specs.declared.weights.LoadKind.{LoadKind}
use Rattle.placing.specs.Placing.{width}
use Rattle.placing.specs.Mirrors.{Mirrored}
use Rattle.placing.specs.Loaded.{Loads, area_over, effect_of, kerb_of, loaded, LoadsMirrored}

module _ (l k : Loads) (r : LoadsMirrored l k) where
  area_turned : (j w : ℕ) → j + w ≤ l.slices → area_over k (l.slices - j - w) w ≡ area_over l j w
  area_turned j w h =
      total_cong w _ (λ i. l.area (j + (w - 1 - i))) (λ i lt. ap k.area (omega arith) ∙ r.area (j + (w - 1 - i)) (omega arith))
      ∙ sym (total_reverse w (λ i. l.area (j + i)))

  -- T at a lane's start, or no weight at a remaining slice
  tandem_turned : (p : Owner) (j : ℕ) → j + width l.lane p ≤ l.slices
      → tandem_weight l.kind l.factors p * k.top (l.slices - j - width l.lane p) ≡ tandem_weight l.kind l.factors p * l.top j
  tandem_turned Remaining j h = omega arith
  tandem_turned Lane1 j h = ap (λ t. tandem_weight l.kind l.factors Lane1 * t) (r.top j h)
  tandem_turned Lane2 j h = ap (λ t. tandem_weight l.kind l.factors Lane2 * t) (r.top j h)
  tandem_turned Lane3 j h = ap (λ t. tandem_weight l.kind l.factors Lane3 * t) (r.top j h)
  tandem_turned Other j h = ap (λ t. tandem_weight l.kind l.factors Other * t) (r.top j h)

  effect_turned : (p : Owner) (j : ℕ) → j + width l.lane p ≤ l.slices → effect_of k p (l.slices - j - width l.lane p) ≡ effect_of l p j
  effect_turned p j h =
      let w = width l.lane p in
      let i = l.slices - j - w in
      let same : effect_of k p i ≡ tandem_weight l.kind l.factors p * k.top i + uniform_weight l.kind l.factors p * area_over k i w =
      ap₂ (λ (x : LoadKind) (y : Factors). tandem_weight x y p * k.top i + uniform_weight x y p * area_over k i (width k.lane p)) r.kind r.factors
      ∙ ap (λ x. tandem_weight l.kind l.factors p * k.top i + uniform_weight l.kind l.factors p * area_over k i (width x p)) r.lane in
      same ∙ ap₂ (λ (x y : ℕ). x + uniform_weight l.kind l.factors p * y) (tandem_turned p j h) (area_turned j w h)

  pub loads_turned : {W : Type 0} (made : ℕ → ℕ → W) → ((e b c : ℕ) → made e b ≡ made e c) → Mirrored (loaded made l) (loaded made k)
  loads_turned made even = record {
    slices = r.slices;
    lane = r.lane;
    part = λ p j h. ap (λ e. made e (kerb_of p (l.slices - j - width l.lane p))) (effect_turned p j h) ∙ even (effect_of l p j) _ _;
  }
