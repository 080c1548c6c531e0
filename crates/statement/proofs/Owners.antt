-- Owners tell where the lanes lie, and so what is handed back.
use Rattle.std.proofs.Common.{◌≡◌, ℕ, zero, suc, ◌+◌, ◌*◌, ◌<◌, ◌≤◌, cond, leb, get_or, None, sym, refl, ap, ◌∙◌, ap₂, ⊎_elim, arith}
use Rattle.std.proofs.lemmas.Bool.{cases_lt, cond-false, lt-leb}
use Rattle.algebra.specs.Frac.{Frac, ◌+F◌, ◌·F◌}
use Rattle.algebra.specs.Sums.{totalF}
use Rattle.algebra.proofs.Sums.{total_cong}
use Rattle.lines.specs.Areas.{area_of, loaded_on, all_positive, changes_of}
use Rattle.model.specs.Lanes.{breadth, lanes_in, lane_slices}
use Rattle.model.specs.Owners.{number_of}
use Rattle.model.specs.Weights.{uniform_weight}
use Rattle.model.specs.declared.lanes.Carriageway.{Carriageway}
use Rattle.model.specs.declared.tandems.Tandem.{Tandem}
use Rattle.statement.specs.Lanes.{Starts, Numbered, Laid, lane_at, owner_of, owner_at, owners_of}
use Rattle.statement.specs.Effects.{Setting, lane_count, on_deck, tandem_share, uniform_share, tandem_effect, stood, placed, handed_back}
use Rattle.statement.specs.Facts.{OwnersTell}
use Rattle.statement.proofs.Effects.{other_share}
use Rattle.statement.proofs.Found.{lane_some, listed_at, owner_number, low_owner, lane_holds, lane_found}

pub totalF_cong : (n : ℕ) (f h : ℕ → Frac) → ((i : ℕ) → i < n → f i ≡ h i) → totalF n f ≡ totalF n h
totalF_cong zero f h each = refl
totalF_cong (suc n) f h each = ap₂ (λ (a b : Frac). a +F b) (totalF_cong n f h (λ i l. each i (omega arith))) (each n (omega arith))

number_same : (k : Carriageway) (starts others : Starts) → owners_of k starts ≡ owners_of k others → (x : ℕ) → x < breadth k → number_of (owner_at k starts x) ≡ number_of (owner_at k others x)
number_same k starts others same x h =
    sym (listed_at (breadth k) (λ j. number_of (owner_at k starts j)) x h) ∙ ap (λ xs. get_or xs x 0) same ∙ listed_at (breadth k) (λ j. number_of (owner_at k others j)) x h

start_le : (k : Carriageway) (starts others : Starts) → Laid k starts → Laid k others → owners_of k starts ≡ owners_of k others → (i : ℕ) → Numbered k i → i ≤ 3 → others i ≤ starts i
start_le k starts others laid laid' same i n low =
    let l = lane_slices k.width in
    let s = lane_some k.width in
    let here : lane_at l starts (lanes_in k.width) (starts i) ≡ i = lane_found l starts (lanes_in k.width) (λ a b f m o. laid.apart a b (f, omega arith) (omega arith, m) o) (starts i) i n.0 n.1 (omega arith) (omega arith) in
    let own = sym (ap (λ y. number_of (owner_of y)) here) ∙ number_same k starts others same (starts i) (omega (arith, laid.inside i n)) in
    (lane_holds l others (lanes_in k.width) (starts i) i n.0 (low_owner _ i n.0 low own)).0

module _ (g : Setting) (tandems : ℕ → Tandem) (starts others : Starts) (laid : Laid g.kerbs starts) (laid' : Laid g.kerbs others) (same : owners_of g.kerbs starts ≡ owners_of g.kerbs others) where
  same_start : (i : ℕ) → Numbered g.kerbs i → i ≤ 3 → starts i ≡ others i
  same_start i n l =
      let a = start_le g.kerbs starts others laid laid' same i n l in
      let b = start_le g.kerbs others starts laid' laid (sym same) i n l in
      omega (arith, a, b)

  -- what a lane counts by its tandem
  same_share : (f : Tandem → ℕ) (i : ℕ) → i < lane_count g → tandem_share g (suc i) * f (tandems (starts (suc i))) ≡ tandem_share g (suc i) * f (tandems (others (suc i)))
  same_share f i h = ⊎_elim
      (λ (l : 3 < suc i).
      let z = other_share g.kind g.factors (suc i) l in
      ap (λ q. q * f (tandems (starts (suc i)))) z ∙ none (f (tandems (starts (suc i)))) (f (tandems (others (suc i)))) ∙ sym (ap (λ q. q * f (tandems (others (suc i)))) z))
      (λ (l : suc i ≤ 3). ap (λ s. tandem_share g (suc i) * f (tandems s)) (same_start (suc i) (omega arith, omega arith) l))
      (cases_lt 3 (suc i))
    where
      none : (a b : ℕ) → 0 * a ≡ 0 * b
      none a b = omega arith

  -- what a slice counts
  same_slice : (x : ℕ) → x < breadth g.kerbs → uniform_share g starts x ≡ uniform_share g others x
  same_slice x h =
      ap (uniform_weight g.kind g.factors) (sym (owner_number (owner_at g.kerbs starts x)) ∙ ap owner_of (number_same g.kerbs starts others same x h) ∙ owner_number (owner_at g.kerbs others x))

  same_handed : (i : ℕ) → i < lane_count g → tandem_effect g (starts (suc i)) ((handed_back g tandems starts).tandem (suc i)) ≡ tandem_effect g (others (suc i)) ((handed_back g tandems others).tandem (suc i))
  same_handed i h = ⊎_elim
      (λ (l : 3 < suc i).
      ap (tandem_effect g (starts (suc i))) (cond-false (leb (suc i) 3) (placed (tandems (starts (suc i))).place) None (lt-leb (suc i) 3 l))
      ∙ sym (ap (tandem_effect g (others (suc i))) (cond-false (leb (suc i) 3) (placed (tandems (others (suc i))).place) None (lt-leb (suc i) 3 l))))
      (λ (l : suc i ≤ 3). ap (λ s. tandem_effect g s (cond (leb (suc i) 3) (placed (tandems s).place) None)) (same_start (suc i) (omega arith, omega arith) l))
      (cases_lt 3 (suc i))

pub owners_tell : OwnersTell
owners_tell g tandems starts others laid laid' same =
    let slice = same_slice g tandems starts others laid laid' same in
    record {
      lanes = same_start g tandems starts others laid laid' same;
      rounded = ap₂ (λ (x y : ℕ). x + y)
          (total_cong (lane_count g) _ _ (same_share g tandems starts others laid laid' same (λ t. t.t)))
          (total_cong (breadth g.kerbs) _ _ (λ j h. ap (λ u. u * area_of g.surface (on_deck g j)) (slice j h)));
      handed = ap₂ (λ (x y : Frac). x +F y)
          (totalF_cong (lane_count g) _ _ (λ i h. ap (λ f. tandem_share g (suc i) ·F f) (same_handed g tandems starts others laid laid' same i h)))
          (totalF_cong (breadth g.kerbs) _ _ (λ j h. ap (λ u. u ·F loaded_on g.surface (on_deck g j) (all_positive g.surface (on_deck g j))) (slice j h)));
      allowed = ap₂ (λ (x y : ℕ). x + y)
          (total_cong (lane_count g) _ _ (same_share g tandems starts others laid laid' same (λ t. stood t.place)))
          (total_cong (breadth g.kerbs) _ _ (λ j h. ap (λ u. u * changes_of g.surface (on_deck g j)) (slice j h)));
    }
