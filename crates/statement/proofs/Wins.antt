-- The placement's chosen parts are the winner: parts and lanes that are the same count the same.
use Rattle.std.proofs.Common.{◌≡◌, ℕ, zero, suc, ◌+◌, ◌-◌, ◌*◌, ◌<◌, List, [], ◌∷◌, get_or, sym, refl, ap, ◌∙◌, ap₂, subst₂, mul-add, arith}
use Rattle.algebra.specs.Sums.{total}
use Rattle.algebra.proofs.Sums.{total_cong}
use Rattle.lines.specs.Areas.{area_of}
use Rattle.model.specs.Lanes.{breadth}
use Rattle.model.specs.Owners.{number_of}
use Rattle.model.specs.Weights.{tandem_weight, uniform_weight}
use Rattle.model.specs.declared.owners.Owner.{Owner}
use Rattle.model.specs.declared.owners.Owner.TheVariants.{Remaining}
use Rattle.model.specs.declared.tandems.Tandem.{Tandem}
use Rattle.model.specs.declared.weights.Factors.{Factors}
use Rattle.model.specs.declared.weights.LoadKind.{LoadKind}
use Rattle.placing.specs.Kind.{Kind, Laws, Counts}
use Rattle.placing.specs.Placing.{width, span, owners, worth, Placement, lane_set, Before}
use Rattle.placing.specs.Loaded.{Loads, area_over, kerb_of, loaded, effect_from, kerb_from}
use Rattle.placing.proofs.Chosen.{chosen_once}
use Rattle.placing.proofs.Loaded.{loaded_worth}
use Rattle.placing.proofs.Totals.{total_split}
use Rattle.statement.specs.Lanes.{Starts, Laid, owner_of, owner_at}
use Rattle.statement.specs.Effects.{Setting, lane_count, lane_width, on_deck, tandem_share, uniform_share, rounded_effect, kerb_count}
use Rattle.statement.specs.Winners.{lanes_worth}
use Rattle.statement.specs.Facts.{WinnerOnce}
use Rattle.statement.specs.Parts.{part_sum, SameLanes, HoldsAll, LoadsIn, ChosenWins, loads_in, WinnerChosen}
use Rattle.statement.proofs.Found.{listed_at, run_front, run_back, owner_number}
use Rattle.statement.proofs.Cuts.{lanes_cut}
use Rattle.statement.proofs.Parts.{parts_laid}

total_scaled : (n u : ℕ) (f : ℕ → ℕ) → total n (λ i. u * f i) ≡ u * total n f
total_scaled zero u f = omega arith
total_scaled (suc n) u f = omega (arith, total_scaled n u f, mul-add u (total n f) (f n))

module _ (l : Loads) where
  abbrev weigh : Owner → ℕ
  weigh p = uniform_weight l.kind l.factors p

  abbrev tandem_at : Owner → ℕ → ℕ
  tandem_at p j = tandem_weight l.kind l.factors p * l.top j

  -- the uniform loads of parts, slice by slice
  abbrev uniform_over : ℕ → List Owner → ℕ
  uniform_over j ps = total (span l.lane ps) (λ x. weigh (owner_of (get_or (owners l.lane ps) x 0)) * l.area (j + x))

  uniform_step : (p : Owner) (j : ℕ) (ps : List Owner) → uniform_over j (p ∷ ps) ≡ weigh p * area_over l j (width l.lane p) + uniform_over (j + width l.lane p) ps
  uniform_step p j ps =
      let w = width l.lane p in
      let f : ℕ → ℕ = λ x. weigh (owner_of (get_or (owners l.lane (p ∷ ps)) x 0)) * l.area (j + x) in
      total_split w (span l.lane ps) f
      ∙ ap₂ (λ (a b : ℕ). a + b)
      (total_cong w f (λ x. weigh p * l.area (j + x)) (λ x h. ap (λ q. weigh q * l.area (j + x)) (ap owner_of (run_front w (number_of p) (owners l.lane ps) x h) ∙ owner_number p)) ∙ total_scaled w (weigh p) (λ x. l.area (j + x)))
      (total_cong (span l.lane ps) (λ x. f (w + x)) (λ x. weigh (owner_of (get_or (owners l.lane ps) x 0)) * l.area (j + w + x)) (λ x h.
      ap₂ (λ (q i : ℕ). weigh (owner_of q) * l.area i) (run_back w (number_of p) (owners l.lane ps) x) (omega arith)))

  -- the effect of parts is what their tandems and their slices count
  effect_parts : (j : ℕ) (ps : List Owner) → effect_from l j ps ≡ part_sum tandem_at l.lane j ps + uniform_over j ps
  effect_parts j [] = refl
  effect_parts j (p ∷ ps) = omega (arith, effect_parts (j + width l.lane p) ps, uniform_step p j ps)

  kerb_parts : (j : ℕ) (ps : List Owner) → kerb_from l j ps ≡ part_sum kerb_of l.lane j ps
  kerb_parts j [] = refl
  kerb_parts j (p ∷ ps) = ap (λ y. kerb_of p j + y) (kerb_parts (j + width l.lane p) ps)

no_weight : (kind : LoadKind) (f : Factors) (t : ℕ) → tandem_weight kind f Remaining * t ≡ 0
no_weight kind f t = omega arith

lane_kerb : (i x : ℕ) → kerb_of (owner_of (suc i)) x ≡ 300 - x
lane_kerb zero x = refl
lane_kerb (suc zero) x = refl
lane_kerb (suc (suc zero)) x = refl
lane_kerb (suc (suc (suc i))) x = refl

abbrev loads_as : Loads → ℕ → ℕ → LoadKind → Factors → Loads
loads_as l slices lane kind factors = record { slices = slices; lane = lane; kind = kind; factors = factors; area = l.area; top = l.top }

module _ (g : Setting) (tandems : ℕ → Tandem) (l : Loads) (r : LoadsIn g tandems l) where
  -- the loads with the setting's own slices, lanes, kind and factors
  abbrev own : Loads
  own = loads_as l (breadth g.kerbs) (lane_width g) g.kind g.factors

  same_loads : l ≡ own
  same_loads =
      ap₂ (λ (n m : ℕ). loads_as l n m l.kind l.factors) r.slices r.lane
      ∙ ap₂ (λ (k : LoadKind) (f : Factors). loads_as l (breadth g.kerbs) (lane_width g) k f) r.kind r.factors

  module _ (starts : Starts) (laid : Laid g.kerbs starts) (parts : List Owner) (s : SameLanes g.kerbs starts parts) where
    same_tandems : part_sum (tandem_at own) (lane_width g) 0 parts ≡ total (lane_count g) (λ i. tandem_share g (suc i) * (tandems (starts (suc i))).t)
    same_tandems =
        s.sums (tandem_at own) (λ j. no_weight g.kind g.factors (l.top j))
        ∙ total_cong (lane_count g) _ _ (λ i h. ap (λ t. tandem_share g (suc i) * t) (r.tops (starts (suc i)) (laid.inside (suc i) (omega arith, omega arith))))

    owner_same : (x : ℕ) → x < breadth g.kerbs → owner_of (get_or (owners (lane_width g) parts) x 0) ≡ owner_at g.kerbs starts x
    owner_same x h = ap (λ xs. owner_of (get_or xs x 0)) s.slices ∙ ap owner_of (listed_at (breadth g.kerbs) (λ j. number_of (owner_at g.kerbs starts j)) x h) ∙ owner_number (owner_at g.kerbs starts x)

    same_uniform : uniform_over own 0 parts ≡ total (breadth g.kerbs) (λ j. uniform_share g starts j * area_of g.surface (on_deck g j))
    same_uniform =
        ap (λ n. total n (λ x. weigh own (owner_of (get_or (owners (lane_width g) parts) x 0)) * l.area (0 + x))) s.fill
        ∙ total_cong (breadth g.kerbs) _ _ (λ x h. ap₂ (λ (p : Owner) (a : ℕ). weigh own p * a) (owner_same x h) (ap l.area (plain x) ∙ r.areas x h))
      where
        plain : (x : ℕ) → 0 + x ≡ x
        plain x = omega arith

    same_effect : effect_from l 0 parts ≡ rounded_effect g tandems starts
    same_effect = ap (λ m. effect_from m 0 parts) same_loads ∙ effect_parts own 0 parts ∙ ap₂ (λ (a b : ℕ). a + b) same_tandems same_uniform

    same_kerb : kerb_from l 0 parts ≡ kerb_count g starts
    same_kerb = ap (λ m. kerb_from m 0 parts) same_loads ∙ kerb_parts own 0 parts ∙ s.sums kerb_of (λ j. refl) ∙ total_cong (lane_count g) _ _ (λ i h. lane_kerb i (starts (suc i)))

    module _ {W : Type 0} (K : Kind W) (made : ℕ → ℕ → W) (counts : Counts K made) where
      same_worth : worth K (loaded made l) 0 parts ≡ lanes_worth K made g tandems starts
      same_worth = loaded_worth K made counts l 0 parts ∙ ap₂ (λ (e k : ℕ). made e k) same_effect same_kerb

      placement : HoldsAll g.kerbs parts → Placement (loaded made l) 0 (lane_set (lane_count g)) (lane_count g - 3) parts
      placement all = record { covers = omega (arith, ap (λ n. span n parts) r.lane, s.fill, r.slices); holds = all }

pub chosen_wins : {W : Type 0} (K : Kind W) (made : ℕ → ℕ → W) → Counts K made → ChosenWins K made
chosen_wins K made counts g tandems l r parts c =
    let k = g.kerbs in
    let lane : span l.lane parts ≡ span (lane_width g) parts = ap (λ n. span n parts) r.lane in
    let fill : span (lane_width g) parts ≡ breadth k = omega (arith, lane, c.placed.covers, r.slices) in
    let p = parts_laid k parts fill c.placed.holds in
    let starts = p.0 in
    let laid = p.1 in
    let s = p.2 in
    let mine = same_worth g tandems l r starts laid parts s K made counts in
    record {
      starts = starts;
      winner = record {
        laid = laid;
        greatest = λ others o.
            let q = lanes_cut k others o in
            let theirs = same_worth g tandems l r others o q.0 q.1 K made counts in
            rw (mine, theirs) at (c.greatest q.0 (placement g tandems l r others o q.0 q.1 K made counts q.2));
        first = λ others o e.
            let q = lanes_cut k others o in
            let theirs = same_worth g tandems l r others o q.0 q.1 K made counts in
            let b = c.first q.0 (placement g tandems l r others o q.0 q.1 K made counts q.2) (theirs ∙ e ∙ sym mine) in
            rw (r.lane, s.slices, q.1.slices) at b;
      };
      slices = s.slices;
      attained = same_effect g tandems l r starts laid parts s;
    }

pub winner_chosen : {W : Type 0} (K : Kind W) (made : ℕ → ℕ → W) → Counts K made → WinnerChosen K made
winner_chosen K made counts g tandems starts w =
    let k = g.kerbs in
    let l = loads_in g tandems in
    let r : LoadsIn g tandems l = record { slices = refl; lane = refl; kind = refl; factors = refl; areas = λ j h. refl; tops = λ x h. refl } in
    let p = lanes_cut k starts w.laid in
    let mine = same_worth g tandems l r starts w.laid p.0 p.1 K made counts in
    record {
      parts = p.0;
      same = p.1;
      chosen = record {
        placed = placement g tandems l r starts w.laid p.0 p.1 K made counts p.2;
        greatest = λ qs q.
            let o = parts_laid k qs (omega (arith, q.covers)) q.holds in
            let theirs = same_worth g tandems l r o.0 o.1 qs o.2 K made counts in
            rw (← mine, ← theirs) at (w.greatest o.0 o.1);
        first = λ qs q e.
            let o = parts_laid k qs (omega (arith, q.covers)) q.holds in
            let theirs = same_worth g tandems l r o.0 o.1 qs o.2 K made counts in
            subst₂ (λ (a b : List ℕ). Before a b) (sym p.1.slices) (sym o.2.slices) (w.first o.0 o.1 (sym theirs ∙ e ∙ mine));
      };
    }

pub winner_once : {W : Type 0} (K : Kind W) (made : ℕ → ℕ → W) → Laws K → Counts K made → WinnerOnce K made
winner_once K made laws counts g tandems starts others w v =
    let a = winner_chosen K made counts g tandems starts w in
    let b = winner_chosen K made counts g tandems others v in
    sym a.same.slices ∙ chosen_once K laws (loaded made (loads_in g tandems)) 0 _ _ a.parts b.parts a.chosen b.chosen ∙ b.same.slices
