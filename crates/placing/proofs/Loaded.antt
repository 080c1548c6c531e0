-- What loaded parts count: bounded, made of effects and kerb counts, and the same from the other kerb.
use Rattle.std.proofs.Common.{◌≡◌, ℕ, ◌+◌, ◌*◌, ◌^◌, ◌<◌, ◌≤◌, List, [], ◌∷◌, sym, ap, ◌∙◌, mul-le-mul, arith}
use Rattle.model.specs.Weights.{tandem_load, uniform_load, tandem_weight, uniform_weight}
use Rattle.model.specs.declared.owners.Owner.{Owner}
use Rattle.model.specs.declared.owners.Owner.TheVariants.{Remaining, Lane1, Lane2, Lane3, Other}
use Rattle.model.specs.declared.weights.LoadKind.{LoadKind}
use Rattle.model.specs.declared.weights.LoadKind.TheVariants.{Characteristic, Frequent}
use Rattle.placing.specs.Kind.{Kind, Counts}
use Rattle.placing.specs.Placing.{width, worth, Bounded, Won}
use Rattle.placing.specs.Loaded.{Loads, area_over, effect_of, kerb_of, loaded, effect_from, kerb_from, Rated, Low, most_area}
use Rattle.placing.proofs.Owners.{width_pos}
use Rattle.placing.proofs.Totals.{total_low}

-- ---- weights

tandem_load_low : (k : LoadKind) (p : Owner) → tandem_load k p ≤ 3000
tandem_load_low Characteristic Remaining = omega arith
tandem_load_low Characteristic Lane1 = omega arith
tandem_load_low Characteristic Lane2 = omega arith
tandem_load_low Characteristic Lane3 = omega arith
tandem_load_low Characteristic Other = omega arith
tandem_load_low Frequent Remaining = omega arith
tandem_load_low Frequent Lane1 = omega arith
tandem_load_low Frequent Lane2 = omega arith
tandem_load_low Frequent Lane3 = omega arith
tandem_load_low Frequent Other = omega arith

uniform_load_low : (k : LoadKind) (p : Owner) → uniform_load k p ≤ 90
uniform_load_low Characteristic Remaining = omega arith
uniform_load_low Characteristic Lane1 = omega arith
uniform_load_low Characteristic Lane2 = omega arith
uniform_load_low Characteristic Lane3 = omega arith
uniform_load_low Characteristic Other = omega arith
uniform_load_low Frequent Remaining = omega arith
uniform_load_low Frequent Lane1 = omega arith
uniform_load_low Frequent Lane2 = omega arith
uniform_load_low Frequent Lane3 = omega arith
uniform_load_low Frequent Other = omega arith

module _ (l : Loads) (low : Low l) where
  pub tandem_weight_low : (p : Owner) → tandem_weight l.kind l.factors p ≤ 600000
  tandem_weight_low p = omega (arith, mul-le-mul (tandem_load_low l.kind p) (low.tandem_factors p))

  pub uniform_weight_low : (p : Owner) → uniform_weight l.kind l.factors p ≤ 18000
  uniform_weight_low p = omega (arith, mul-le-mul (uniform_load_low l.kind p) (low.uniform_factors p))

  pub area_over_low : (j n : ℕ) → j + n ≤ l.slices → area_over l j n ≤ n * most_area
  area_over_low j n h = total_low n most_area (λ i. l.area (j + i)) (λ i k. low.areas (j + i) (omega arith))

  pub tandem_share_low : (p : Owner) (j : ℕ) → j < l.slices → tandem_weight l.kind l.factors p * l.top j ≤ 4800000000000000
  tandem_share_low p j h = omega (arith, mul-le-mul (tandem_weight_low p) (low.tops j h))

  pub uniform_share_low : (p : Owner) (j n : ℕ) → j + n ≤ l.slices → uniform_weight l.kind l.factors p * area_over l j n ≤ n * 720000000000000
  uniform_share_low p j n h = omega (arith, mul-le-mul (uniform_weight_low p) (area_over_low j n h))

kerb_low : (p : Owner) (j : ℕ) → kerb_of p j ≤ 300
kerb_low Remaining j = omega arith
kerb_low Lane1 j = omega arith
kerb_low Lane2 j = omega arith
kerb_low Lane3 j = omega arith
kerb_low Other j = omega arith

module _ {W : Type 0} (K : Kind W) (made : ℕ → ℕ → W) (counts : Counts K made) (l : Loads) where
  -- so every sum of parts fits
  pub loaded_bounded : Low l → Bounded K (loaded made l)
  loaded_bounded low = record { few = omega (arith, low.few); wide = low.wide; narrow = omega (arith, low.narrow); light = light }
    where
      light : (p : Owner) (j : ℕ) → j + width l.lane p ≤ l.slices → K.weight (made (effect_of l p j) (kerb_of p j)) ≤ width l.lane p * 2 ^ 54
      light p j h =
          let w = width_pos l.lane p low.wide in
          omega (arith, counts.light (effect_of l p j) (kerb_of p j), tandem_share_low l low p j (omega arith), uniform_share_low l low p j (width l.lane p) h, kerb_low p j)

  -- what parts are worth is made of their effects and their kerb counts
  pub loaded_worth : (j : ℕ) (ps : List Owner) → worth K (loaded made l) j ps ≡ made (effect_from l j ps) (kerb_from l j ps)
  loaded_worth j [] = sym counts.none
  loaded_worth j (p ∷ ps) =
      ap (K.sum (made (effect_of l p j) (kerb_of p j))) (loaded_worth (j + width l.lane p) ps)
      ∙ counts.sums (effect_of l p j) (kerb_of p j) (effect_from l (j + width l.lane p) ps) (kerb_from l (j + width l.lane p) ps)

  pub rated : (m o : ℕ) (w : W) (own : List ℕ) → Won K (loaded made l) m o w own → Rated K made l m o w own
  rated m o w own won = record {
    won = won;
    value = sym won.value ∙ loaded_worth 0 won.parts;
    rivals = λ qs q. counts.led (effect_from l 0 won.parts) (kerb_from l 0 won.parts) (effect_from l 0 qs) (kerb_from l 0 qs) (rw (loaded_worth 0 won.parts, loaded_worth 0 qs) at (won.chosen.greatest qs q));
  }
