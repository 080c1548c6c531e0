-- What is held of a surface has the same areas and tandems as the surface.
use Rattle.std.proofs.Common.{◌≡◌, ℕ, ◌+◌, ◌-◌, ◌<◌, ◌≤◌, List, get_or, ℤ, pos, ◌+ℤ◌, Option, sym, refl, ap, ◌∙◌, subst, ap₂, arith}
use Rattle.surface.specs.Shape.{Shape, Lawful}
use Rattle.model.specs.declared.lanes.Carriageway.{Carriageway}
use Rattle.model.specs.declared.tandems.Tandem.{Tandem}
use Rattle.model.specs.Lanes.{breadth, lane_slices, wheels}
use Rattle.model.proofs.Tables.{wheel_inside, lane_range}
use Rattle.lines.specs.Lines.{IsTandem}
use Rattle.lines.specs.Areas.{row, area_to, IsArea}
use Rattle.lines.specs.Axles.{wheel_sum, axle_line, LaneTandem}
use Rattle.lines.proofs.Areas.{area_same, is_area}
use Rattle.lines.proofs.Agreeing.{tandem_same}
use Rattle.loads.specs.declared.grid.Grid.{Grid}
use Rattle.loads.specs.Grids.{line_on, Read}
use Rattle.loads.specs.Filled.{TandemAt}
use Rattle.loads.specs.Held.{row_of, Places, held_sum, lane_line}

-- the stations of a lawful surface
pub places_held : (s : Shape) → Lawful s → (n : ℕ) (zs : List ℕ) → n ≡ s.stations → ((k : ℕ) → k < s.stations → get_or zs k 0 ≡ s.place k) → Places n zs
places_held s law n zs e read = record {
  some = omega (arith, law.some);
  few = omega (arith, law.few);
  begins = read 0 (omega (arith, law.some)) ∙ law.begins;
  rises = λ k h. let i : k + 1 < s.stations = omega arith in omega (arith, read k (omega arith), read (k + 1) i, law.rises k i);
  ends = λ k h. let i : k < s.stations = omega arith in omega (arith, read k i, law.ends k i);
}

module _ (s : Shape) (c : Carriageway) (g : Grid) (r : Read s c g) where
  place_at : (k : ℕ) → k < g.stations.count → get_or g.stations.places k 0 ≡ s.place k
  place_at k h = r.places_read k (omega (arith, r.count))

  pub area_is : (j a : ℕ) → j < breadth c → a ≡ area_to (line_on g (row_of g.heights j)) (g.stations.count - 1) → IsArea s (c.first + j) a
  area_is j a h f =
      let n = r.count in
      let same = area_same (line_on g (row_of g.heights j)) (row s (c.first + j)) (record { count = n; place = place_at; value = λ k i. r.heights_read.value j k h (omega arith) })
      (g.stations.count - 1) (omega (arith, r.lawful.some)) in
      let m : g.stations.count - 1 ≡ s.stations - 1 = omega arith in
      subst (λ (x : ℕ). IsArea s (c.first + j) x) (sym (f ∙ same ∙ ap (area_to (row s (c.first + j))) m)) (is_area s (c.first + j))

  module _ (x l : ℕ) (wide : 54 ≤ l) (fits : x + l ≤ breadth c) where
    wheel_at : (k i : ℕ) → k < s.stations → i < 4 → get_or (row_of g.heights (x + get_or (wheels l) i 0)) k (pos 0) ≡ s.ordinate (c.first + x + get_or (wheels l) i 0) k
    wheel_at k i h b =
        let w = wheel_inside l i wide b in
        let a : c.first + (x + get_or (wheels l) i 0) ≡ c.first + x + get_or (wheels l) i 0 = omega arith in
        r.heights_read.value (x + get_or (wheels l) i 0) k (omega arith) h ∙ ap (λ (j : ℕ). s.ordinate j k) a

    sum_at : (k : ℕ) → k < s.stations → held_sum g.heights x l k ≡ wheel_sum s (c.first + x) l k
    sum_at k h =
        let with : (v v' u u' : ℤ) → v ≡ v' → u ≡ u' → v +ℤ u ≡ v' +ℤ u' = λ v v' u u' p q. ap₂ (λ (i j : ℤ). i +ℤ j) p q in
        with _ _ _ _ (wheel_at k 0 h (omega arith)) (with _ _ _ _ (wheel_at k 1 h (omega arith)) (with _ _ _ _ (wheel_at k 2 h (omega arith)) (with _ _ _ _ (wheel_at k 3 h (omega arith)) refl)))

    tandem_is : (t : ℕ) (p : Option ℕ) → IsTandem (lane_line g.stations.count g.stations.places g.heights x l) t p → IsTandem (axle_line s (c.first + x) l) t p
    tandem_is t p h =
        let n = r.count in
        tandem_same (lane_line g.stations.count g.stations.places g.heights x l) (axle_line s (c.first + x) l) (record { count = n; place = place_at; value = λ k i. sum_at k (omega arith) })
        (omega (arith, r.lawful.some)) t p h

  pub lane_is : (x : ℕ) → x + lane_slices c.width ≤ breadth c → (t : Tandem) → TandemAt g.stations.count g.stations.places g.heights (breadth c) (lane_slices c.width) x t → LaneTandem s (c.first + x) (lane_slices c.width) t
  lane_is x h t f = tandem_is x (lane_slices c.width) (lane_range c.width).0 h t.t t.place (f.fits h)
