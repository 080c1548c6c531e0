-- Two answers are their list.
use Rattle.std.proofs.Common.{◌≡◌, List, [], ◌∷◌, length, get_or, refl, arith}

pub two : {A : Type 0} (d : A) (xs : List A) → length xs ≡ 2 → xs ≡ get_or xs 0 d ∷ get_or xs 1 d ∷ []
two d [] e = absurd (omega arith)
two d (x ∷ []) e = absurd (omega arith)
two d (x ∷ y ∷ []) e = refl
two d (x ∷ y ∷ z ∷ xs) e = absurd (omega arith)
