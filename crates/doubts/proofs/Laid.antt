-- Kerbs that fit, and lanes that are laid by a test that is computed.
use Rattle.std.proofs.Common.{◌≡◌, ℕ, zero, suc, ◌+◌, ◌<◌, ◌≤◌, Bool, true, ◌&&◌, ◌||◌, eqb, leb, ◌⊎◌, inl, inr, ⊎_elim, arith}
use Rattle.std.proofs.lemmas.Bool.{and_parts, or_cases, leb-true, eqb-true}
use Rattle.card.specs.Bounds.{kerbs_fit}
use Rattle.model.specs.Lanes.{breadth, lanes_in, lane_slices}
use Rattle.model.specs.declared.lanes.Carriageway.{Carriageway}
use Rattle.statement.specs.Lanes.{Starts, Numbered, Laid}
use Rattle.decks.proofs.Computed.{all_below, each_below}

-- the bounds that kerbs keep
pub record Widths (k : Carriageway) : Type 0 where
  pub least : 30 ≤ k.width
  pub most : k.width ≤ 150

pub widths : (n : ℕ) (k : Carriageway) → kerbs_fit n k ≡ true → Widths k
widths n k e =
    let p = and_parts (leb 30 k.width) _ e in
    record { least = leb-true 30 k.width p.0; most = leb-true k.width 150 (and_parts (leb k.width 150) _ p.1).0 }

module _ (k : Carriageway) (starts : Starts) where
  unfoldable pub clear : ℕ → ℕ → Bool
  clear i j = eqb i j || (leb (starts (suc i) + lane_slices k.width) (starts (suc j)) || leb (starts (suc j) + lane_slices k.width) (starts (suc i)))

  unfoldable pub lanes_tested : Bool
  lanes_tested = all_below (lanes_in k.width) (λ i. leb (starts (suc i) + lane_slices k.width) (breadth k) && all_below (lanes_in k.width) (clear i))

  module _ (e : lanes_tested ≡ true) where
    tested : (i : ℕ) → i < lanes_in k.width → (leb (starts (suc i) + lane_slices k.width) (breadth k) ≡ true) × (all_below (lanes_in k.width) (clear i) ≡ true)
    unfolding lanes_tested
    tested i h = and_parts _ _ (each_below (lanes_in k.width) _ e i h)

    within : (i : ℕ) → Numbered k i → starts i + lane_slices k.width ≤ breadth k
    within zero h = absurd (omega (arith, h))
    within (suc i) h = leb-true _ _ (tested i (omega (arith, h))).0

    aside : (i j : ℕ) → Numbered k i → Numbered k j → i < j → (starts i + lane_slices k.width ≤ starts j) ⊎ (starts j + lane_slices k.width ≤ starts i)
    unfolding clear
    aside zero j h m l = absurd (omega (arith, h))
    aside (suc i) zero h m l = absurd (omega arith)
    aside (suc i) (suc j) h m l =
        let t = each_below (lanes_in k.width) (clear i) (tested i (omega (arith, h))).1 j (omega (arith, m)) in
        ⊎_elim
        (λ (q : eqb i j ≡ true). absurd (omega (arith, eqb-true i j q)))
        (λ q. ⊎_elim (λ r. inl (leb-true _ _ r)) (λ r. inr (leb-true _ _ r)) (or_cases _ _ q))
        (or_cases (eqb i j) _ t)

    pub laid_tested : Laid k starts
    laid_tested = record { inside = within; apart = aside }
