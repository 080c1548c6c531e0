-- The exact effects worked by hand.
use Rattle.std.proofs.Common.{ℕ, ◌+◌, ◌*◌, ◌<◌, ◌≤◌, [], ◌∷◌, refl, arith}
use Rattle.algebra.proofs.Frac.{from_≈}
use Rattle.lines.specs.Segments.{Loading}
use Rattle.model.specs.declared.weights.LoadKind.{LoadKind}
use Rattle.statement.specs.Lanes.{Laid}
use Rattle.statement.specs.Effects.{Permitted}
use Rattle.statement.proofs.Permits.{every_place, no_tandem}
use Rattle.decks.specs.Decks.{trial, kerbs_of, lanes_at}
use Rattle.decks.proofs.Winners.{w30}
use Rattle.doubts.specs.Exact.{bare, tandem_alone, load_alone, ExactStands}

laid : Laid (kerbs_of 0 30) (lanes_at (0 ∷ []))
laid = w30.winner.laid

tandem_permitted : (kind : LoadKind) (num den : ℕ) → 0 < den → num + 1200 * den ≤ 20000 * den → Permitted (trial 30 kind) (tandem_alone (record { num = num; den = den }))
tandem_permitted kind num den some room = every_place (trial 30 kind) (lanes_at (0 ∷ [])) laid (λ j k. bare) 1 num den (omega arith) some room

load_permitted : (kind : LoadKind) (n m : ℕ) (l : Loading) → Permitted (trial 30 kind) (load_alone n m l)
load_permitted kind n m l = no_tandem (trial 30 kind) (lanes_at (0 ∷ [])) laid _

pub worked : ExactStands
worked = record {
  tandem = record { permitted = tandem_permitted _ 8800 1 (omega arith) (omega arith); effect_is = from_≈ _ _ refl };
  tandem_frequent = record { permitted = tandem_permitted _ 8800 1 (omega arith) (omega arith); effect_is = from_≈ _ _ refl };
  tandem_after = record { permitted = tandem_permitted _ 17601 2 (omega arith) (omega arith); effect_is = from_≈ _ _ refl };
  tandem_after_frequent = record { permitted = tandem_permitted _ 17601 2 (omega arith) (omega arith); effect_is = from_≈ _ _ refl };
  tandem_before = record { permitted = tandem_permitted _ 17599 2 (omega arith) (omega arith); effect_is = from_≈ _ _ refl };
  half = record { permitted = load_permitted _ 0 0 _; effect_is = from_≈ _ _ refl };
  half_frequent = record { permitted = load_permitted _ 0 0 _; effect_is = from_≈ _ _ refl };
  falling_half = record { permitted = load_permitted _ 59 1 _; effect_is = from_≈ _ _ refl };
  beyond = record { permitted = load_permitted _ 60 0 _; effect_is = from_≈ _ _ refl };
}
