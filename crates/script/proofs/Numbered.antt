-- Few numbers, written out.
use Rattle.std.proofs.Common.{◌≡◌, List, [], ◌∷◌, length, get_or, refl, arith}

pub two : {A : Type 0} (d : A) (xs : List A) → length xs ≡ 2 → xs ≡ get_or xs 0 d ∷ get_or xs 1 d ∷ []
two d [] e = absurd (omega arith)
two d (x ∷ []) e = absurd (omega arith)
two d (x ∷ y ∷ []) e = refl
two d (x ∷ y ∷ z ∷ xs) e = absurd (omega arith)

pub three : {A : Type 0} (d : A) (xs : List A) → length xs ≡ 3 → xs ≡ get_or xs 0 d ∷ get_or xs 1 d ∷ get_or xs 2 d ∷ []
three d [] e = absurd (omega arith)
three d (x ∷ []) e = absurd (omega arith)
three d (x ∷ y ∷ []) e = absurd (omega arith)
three d (x ∷ y ∷ z ∷ []) e = refl
three d (x ∷ y ∷ z ∷ w ∷ xs) e = absurd (omega arith)
