-- The exact effect of one arrangement with everything in it.
use Rattle.std.proofs.Common.{◌≡◌, ℕ, zero, suc, ◌<◌, Some, None, refl, subst, arith}
use Rattle.algebra.proofs.Frac.{from_≈}
use Rattle.model.specs.declared.weights.LoadKind.{LoadKind}
use Rattle.lines.specs.Lines.{Line, Stands}
use Rattle.statement.specs.Lanes.{Laid}
use Rattle.statement.specs.Effects.{lane_line, Place, Permitted}
use Rattle.statement.proofs.Effects.{none_some, some_is}
use Rattle.decks.specs.Decks.{wide, wide_lanes, lanes_at, kerbs_of}
use Rattle.decks.proofs.Computed.{all_below}
use Rattle.doubts.specs.Mixed.{three_tandems, mixed_arrangement, MixedStands}
use Rattle.doubts.proofs.Laid.{clear, lanes_tested, laid_tested}

laid : Laid (kerbs_of 1 149) (lanes_at wide_lanes)
unfolding all_below clear lanes_tested
laid = laid_tested (kerbs_of 1 149) (lanes_at wide_lanes) refl

none_past : (i : ℕ) → 3 < i → three_tandems i ≡ None
none_past zero h = absurd (omega arith)
none_past (suc zero) h = absurd (omega arith)
none_past (suc (suc zero)) h = absurd (omega arith)
none_past (suc (suc (suc zero))) h = absurd (omega arith)
none_past (suc (suc (suc (suc i)))) h = refl

stands_there : (d : Line) (p q : Place) → Some p ≡ Some q → Stands d p.num p.den → Stands d q.num q.den
stands_there d p q e s = subst (λ (r : Place). Stands d r.num r.den) (some_is p q e) s

module _ (kind : LoadKind) where
  each_stands : (i : ℕ) (p : Place) → three_tandems i ≡ Some p → Stands (lane_line (wide kind) (lanes_at wide_lanes i)) p.num p.den
  each_stands zero p e = none_some p e
  each_stands (suc zero) p e = stands_there _ _ p e (record { some = omega arith; fits = omega arith })
  each_stands (suc (suc zero)) p e = stands_there _ _ p e (record { some = omega arith; fits = omega arith })
  each_stands (suc (suc (suc zero))) p e = stands_there _ _ p e (record { some = omega arith; fits = omega arith })
  each_stands (suc (suc (suc (suc i)))) p e = none_some p e

  permitted : Permitted (wide kind) mixed_arrangement
  permitted = record { laid = laid; only = λ i n h. none_past i h; stands = λ i p n e. each_stands i p e }

pub mixed : MixedStands
mixed = record {
  characteristic = record { permitted = permitted _; effect_is = from_≈ _ _ refl };
  frequent = record { permitted = permitted _; effect_is = from_≈ _ _ refl };
}
