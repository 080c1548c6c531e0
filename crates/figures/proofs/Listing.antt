-- Areas and tandems that are filled are listed, low enough to be placed, and give the figure that is placed over them.
use Rattle.std.proofs.Common.{◌≡◌, ℕ, ◌+◌, ◌-◌, ◌<◌, ◌≤◌, List, length, sym, ap, ◌∙◌, subst, ⊎_elim, arith}
use Rattle.std.proofs.lemmas.Bool.{cases_lt}
use Rattle.lines.proofs.Bounds.{lane_tandem_low, area_of_low}
use Rattle.loads.specs.Filled.{AreasFilled, TandemsFilled}
use Rattle.model.specs.Lanes.{breadth}
use Rattle.model.specs.Tandems.{no_tandem}
use Rattle.model.specs.declared.tandems.Tandem.{Tandem}
use Rattle.model.proofs.Tables.{lane_range}
use Rattle.placing.specs.Kind.{Kind, Counts}
use Rattle.placing.specs.Placing.{lane_set}
use Rattle.placing.specs.Loaded.{loads_over, Low, Rated, most_top}
use Rattle.surface.specs.Shape.{Lawful}
use Rattle.statement.specs.Effects.{Setting, lane_count, lane_width, on_deck}
use Rattle.statement.specs.Figures.{Figured, tandem_in, AreasListed, TandemsListed}
use Rattle.statement.proofs.Figures.{kept_beyond, lists_count, rated_serves}
use Rattle.figures.proofs.Tested.{Fit, EachLow, tandem_factor_low, uniform_factor_low}

module _ (g : Setting) where
  pub areas_listed : (before after : List ℕ) → length after ≡ length before → AreasFilled g.surface g.kerbs before after → AreasListed g before after
  areas_listed before after e h = record { areas = λ j i. (h.filled j i).value; beyond = kept_beyond (breadth g.kerbs) after before 0 e h.beyond }

  pub tandems_listed : (before after : List Tandem) → length after ≡ length before → TandemsFilled g.surface g.kerbs before after → TandemsListed g before after
  tandems_listed before after e h = record { starts = h.starts; rest = h.rest; beyond = kept_beyond (breadth g.kerbs) after before no_tandem e h.beyond }

  module _ (lawful : Lawful g.surface) (fit : Fit g.surface.slices g.kerbs) where
    top_low : (before after : List Tandem) → TandemsListed g before after → (x : ℕ) → x < breadth g.kerbs → (tandem_in after x).t ≤ most_top
    top_low before after t x h =
        ⊎_elim
        (λ (l : breadth g.kerbs < x + lane_width g). subst (λ (u : Tandem). u.t ≤ most_top) (sym (t.rest x h l)) (omega arith))
        (λ (l : x + lane_width g ≤ breadth g.kerbs). lane_tandem_low g.surface lawful (on_deck g x) (lane_width g) (tandem_in after x) (lane_range g.kerbs.width).0 (omega (arith, fit.inside)) (t.starts x l))
        (cases_lt (breadth g.kerbs) (x + lane_width g))

    pub lists_low : EachLow g.factors → {areas areas' : List ℕ} {tandems tandems' : List Tandem} → AreasListed g areas areas' → TandemsListed g tandems tandems'
        → Low (loads_over g.kerbs g.kind g.factors areas' tandems')
    lists_low f {areas} {areas'} {tandems} {tandems'} a t =
        let range = lane_range g.kerbs.width in
        record {
          few = omega (arith, fit.narrow);
          wide = omega (arith, range.0);
          narrow = range.1;
          areas = λ j h. omega (arith, a.areas j h, area_of_low g.surface lawful (on_deck g j) (omega (arith, fit.inside)));
          tops = λ x h. top_low tandems tandems' t x h;
          tandem_factors = tandem_factor_low g.factors f;
          uniform_factors = uniform_factor_low g.factors f;
        }

-- what is rated over the lists is the figure, where the effect is told of the worth that is made of it
pub figured : {W : Type 0} (K : Kind W) (made : ℕ → ℕ → W) → Counts K made → (effect : W → ℕ) → ((e k : ℕ) → effect (made e k) ≡ e)
    → (g : Setting) {areas areas' : List ℕ} {tandems tandems' : List Tandem} → AreasListed g areas areas' → TandemsListed g tandems tandems'
    → {w : W} {owners : List ℕ} {figure : ℕ} → Rated K made (loads_over g.kerbs g.kind g.factors areas' tandems') (lane_set (lane_count g)) (lane_count g - 3) w owners
    → figure ≡ effect w → Figured K made g figure (tandem_in tandems') owners
figured K made counts effect told g {areas} {areas'} {tandems} {tandems'} a t {w} {owners} r e =
    subst (λ f. Figured K made g f (tandem_in tandems') owners) (sym (e ∙ ap effect r.value ∙ told _ _))
    (rated_serves K made counts g (tandem_in tandems') _ (lists_count g areas areas' tandems tandems' a t) t.starts w owners r)
