-- The owners in their order have the numbers of their places.
use Rattle.std.proofs.Common.{◌≡◌, ℕ, zero, suc, ◌<◌, [], ◌∷◌, get_or, refl, arith}
use Rattle.model.specs.Owners.{number_of}
use Rattle.model.specs.declared.owners.Owner.{Owner}
use Rattle.model.specs.declared.owners.Owner.TheVariants.{Remaining, Lane1, Lane2, Lane3, Other}

pub place_number : (i : ℕ) (p : Owner) → i < 5 → number_of (get_or (Remaining ∷ Lane1 ∷ Lane2 ∷ Lane3 ∷ Other ∷ []) i p) ≡ i
place_number zero p h = refl
place_number (suc zero) p h = refl
place_number (suc (suc zero)) p h = refl
place_number (suc (suc (suc zero))) p h = refl
place_number (suc (suc (suc (suc zero)))) p h = refl
place_number (suc (suc (suc (suc (suc i))))) p h = absurd (omega arith)
