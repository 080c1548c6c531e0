-- Two readings of one text: the longer one takes a record where the shorter one stands.
use Rattle.std.proofs.Common.{◌≡◌, ℕ, ◌<◌, List, [], ◌∷◌, length, get_or, sym, refl, subst, ⊎_elim, arith}
use Rattle.std.proofs.lemmas.List.{length_push, get_or_append_left, get_or_push}
use Rattle.std.proofs.lemmas.Bool.{cases_lt}
use Rattle.table.specs.Cells.{Cell, plain}
use Rattle.table.specs.Cells as cells
use Rattle.table.specs.Lines.{Line}
use Rattle.table.specs.Tables.{ReadUpTo, none, next}
use Rattle.table.proofs.Chains.{line_unique}
use Rattle.verdict.proofs.Chains.{same_read, Front}

pub ahead : {rs ss : List (List Cell)} {xs ys zs : List ℕ} → ReadUpTo rs xs ys → ReadUpTo ss xs zs → length rs < length ss → Front (get_or ss (length rs) []) ys
ahead r none h = absurd (omega arith)
ahead {rs} {ys = ys} r (next {rs = ss} cs us rest q some l p) h =
    ⊎_elim
    (λ less. subst (λ (d : List Cell). Front d ys) (sym (get_or_append_left ss (cs ∷ []) [] (length rs) less)) (ahead r q less))
    (λ ge.
    let long : length ss ≡ length rs = omega (arith, length_push ss cs) in
    let left = (same_read r q (sym long)).1 in
    subst (λ (d : List Cell). Front d ys) (sym (get_or_push ss cs [] (length rs) long))
    (record { after = us; some = subst (λ (t : List ℕ). 0 < length t) (sym left) some; line = subst (λ (t : List ℕ). Line cs t us) (sym left) l }))
    (cases_lt (length rs) (length ss))

-- of two numbers neither of which is less, the one is the other
pub level : (m n : ℕ) → (m < n → ⊥) → (n < m → ⊥) → m ≡ n
level m n f g = ⊎_elim (λ less. absurd (f less)) (λ ge. ⊎_elim (λ more. absurd (g more)) (λ le. omega arith) (cases_lt n m)) (cases_lt m n)

-- ---- where no text is left

-- the one record that stands there is an empty field
empty_line : Line (plain [] ∷ []) [] []
empty_line = record { splits = refl; sound = (tt, tt); some = omega arith; closes = cells.at_end refl }

pub line_empty : (cs : List Cell) {ys : List ℕ} → Line cs [] ys → cs ≡ plain [] ∷ []
line_empty cs l = (line_unique cs (plain [] ∷ []) l empty_line).0
