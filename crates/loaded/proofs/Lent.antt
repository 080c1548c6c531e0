-- What a loaded carriageway holds keeps within its bounds, and its running sums give the area of any part.
use Rattle.std.proofs.Common.{◌≡◌, ℕ, ◌+◌, ◌-◌, ◌*◌, ◌≤◌, get_or, ap, ◌∙◌, ap₂, arith}
use Rattle.model.specs.Owners.{number_of}
use Rattle.model.specs.Weights.{tandem_weight, uniform_weight}
use Rattle.model.specs.declared.owners.Owner.{Owner}
use Rattle.placing.specs.Placing.{width}
use Rattle.placing.specs.Loaded.{Low, area_over}
use Rattle.placing.proofs.Loaded.{tandem_share_low, uniform_share_low}
use Rattle.placing.proofs.Owners.{width_pos, width_low}
use Rattle.placing.proofs.Totals.{total_split}
use Rattle.loaded.specs.Lent.{loads_of}
use Rattle.loaded.specs.declared.loads.LoadedCarriageway.{LoadedCarriageway}

module _ (c : LoadedCarriageway) where
  pub low : Low (loads_of c)
  low = record {
    few = c.few;
    wide = c.wide;
    narrow = c.narrow;
    areas = c.areas_low;
    tops = c.tandems_low;
    tandem_factors = c.tandem_factors_low;
    uniform_factors = c.uniform_factors_low;
  }

  module _ (p : Owner) (j : ℕ) (inside : j + width c.lane p ≤ c.slices) where
    -- the running sums on both sides of a part of v slices
    pub sums_around : (v : ℕ) → v ≡ width c.lane p → get_or c.sums (j + v) 0 ≡ get_or c.sums j 0 + area_over (loads_of c) j (width c.lane p)
    sums_around v e =
        let w = width c.lane p in
        let there = c.summed (j + w) inside in
        let here = c.summed j (omega arith) in
        let split = total_split j w (loads_of c).area in
        ap (λ x. get_or c.sums (j + x) 0) e ∙ (omega arith)

    -- what the uniform load counts on a part, by the weight of the owner's number
    pub uniform_share : (n a : ℕ) → n ≡ number_of p → a ≡ area_over (loads_of c) j (width c.lane p) → get_or c.uniform_weights n 0 * a ≡ uniform_weight c.kind c.factors p * area_over (loads_of c) j (width c.lane p)
    uniform_share n a e f = ap₂ (λ (x y : ℕ). x * y) (ap (λ x. get_or c.uniform_weights x 0) e ∙ c.uniform_weighed p) f

    pub uniform_low : uniform_weight c.kind c.factors p * area_over (loads_of c) j (width c.lane p) ≤ 43200000000000000
    uniform_low =
        let wide = width_low c.lane p c.wide in
        let narrow = c.narrow in
        omega (arith, uniform_share_low (loads_of c) low p j (width c.lane p) inside)

    -- what a tandem counts, by the weight of the owner's number
    pub tandem_share : (n : ℕ) → n ≡ number_of p → get_or c.tandem_weights n 0 * (loads_of c).top j ≡ tandem_weight c.kind c.factors p * (loads_of c).top j
    tandem_share n e = ap (λ x. x * (loads_of c).top j) (ap (λ x. get_or c.tandem_weights x 0) e ∙ c.tandem_weighed p)

    pub tandem_low : tandem_weight c.kind c.factors p * (loads_of c).top j ≤ 4800000000000000
    tandem_low = let some = width_pos c.lane p c.wide in tandem_share_low (loads_of c) low p j (omega arith)

  -- what the code reads for a part of v slices whose owner has the number n: an area, and what tandem and uniform load count
  pub record Shares (p : Owner) (j v n : ℕ) : Type 0 where
    pub rises : get_or c.sums j 0 ≤ get_or c.sums (j + v) 0
    pub tandem : get_or c.tandem_weights n 0 * (loads_of c).top j ≡ tandem_weight c.kind c.factors p * (loads_of c).top j
    pub tandem_fits : get_or c.tandem_weights n 0 * (loads_of c).top j ≤ 4800000000000000
    pub uniform : get_or c.uniform_weights n 0 * (get_or c.sums (j + v) 0 - get_or c.sums j 0) ≡ uniform_weight c.kind c.factors p * area_over (loads_of c) j (width c.lane p)
    pub uniform_fits : get_or c.uniform_weights n 0 * (get_or c.sums (j + v) 0 - get_or c.sums j 0) ≤ 43200000000000000

  pub shares : (p : Owner) (j v n : ℕ) → j + width c.lane p ≤ c.slices → v ≡ width c.lane p → n ≡ number_of p → Shares p j v n
  shares p j v n inside e m =
      let sums = sums_around p j inside v e in
      let t = tandem_share p j inside n m in
      let u = uniform_share p j inside n (get_or c.sums (j + v) 0 - get_or c.sums j 0) m (omega arith) in
      record { rises = omega (arith, sums); tandem = t; tandem_fits = omega (arith, t, tandem_low p j inside); uniform = u; uniform_fits = omega (arith, u, uniform_low p j inside) }
