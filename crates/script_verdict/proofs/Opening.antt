-- What an opening says is determined, and so is why it is refused.
use Rattle.std.proofs.Common.{◌≡◌, ℕ, List, [], ◌∷◌, refl}
use Rattle.table.specs.Cells.{Cell}
use Rattle.table.specs.declared.fault.TextFault.{TextFault}
use Rattle.model.specs.declared.lanes.Carriageway.{Carriageway}
use Rattle.script.specs.Calls.{Opens, Unopened}
use Rattle.script.specs.Calls as calls
use Rattle.script_verdict.proofs.Numbers.{naturals_unique, not_numbers_unique, not_numbers_not}

pub opens_unique : {cs : List Cell} {n m : ℕ} {k l : Carriageway} → Opens cs n k → Opens cs m l → (n ≡ m) × (k ≡ l)
opens_unique (calls.says c ds n a b w h) (calls.says _ _ m x y v g) =
    let same = naturals_unique ds (n ∷ a ∷ b ∷ []) (m ∷ x ∷ y ∷ []) h g in
    let number : n ≡ m = cc in
    let first : a ≡ x = cc in
    let width : b ≡ y = cc in
    (number, cc)

pub unopened_unique : {rec : ℕ} {cs : List Cell} {d e : TextFault} → Unopened rec cs d → Unopened rec cs e → d ≡ e
unopened_unique (calls.word c ds none) (calls.word _ _ nor) = refl
unopened_unique (calls.word c ds none) (calls.numbers _ _ e w h) = absurd (none w)
unopened_unique (calls.numbers c ds d w h) (calls.word _ _ none) = absurd (none w)
unopened_unique {rec} (calls.numbers c ds d w h) (calls.numbers _ _ e v g) = not_numbers_unique rec 3 ds d e h g

pub opens_not : {rec : ℕ} {cs : List Cell} {n : ℕ} {k : Carriageway} {e : TextFault} → Opens cs n k → Unopened rec cs e → ⊥
opens_not (calls.says c ds n a b w h) (calls.word _ _ none) = none w
opens_not {rec} (calls.says c ds n a b w h) (calls.numbers _ _ e v g) = not_numbers_not rec 3 ds (n ∷ a ∷ b ∷ []) e h refl g
