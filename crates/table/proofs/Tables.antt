-- A table that was read to its end is its records, rejoined by the format's rules.
use Rattle.std.proofs.Common.{◌≡◌, ℕ, ◌<◌, List, [], ◌∷◌, ◌++◌, length, sym, refl, ap, ◌∙◌, append_assoc, arith}
use Rattle.table.specs.Cells.{Cell}
use Rattle.table.specs.Lines.{joined}
use Rattle.table.specs.Tables.{at_end, at_line, ReadUpTo, none, next, lines, Rejoined, closed, open_ended, ReadingRejoins}

lines_push : (rs : List (List Cell)) (cs : List Cell) (rest : List ℕ) → lines (rs ++ (cs ∷ [])) ++ rest ≡ lines rs ++ (joined cs ++ (13 ∷ 10 ∷ rest))
lines_push [] cs rest = append_assoc (joined cs) (13 ∷ 10 ∷ []) rest
lines_push (r ∷ rs) cs rest =
    append_assoc (joined r) (13 ∷ 10 ∷ lines (rs ++ (cs ∷ []))) rest
    ∙ ap (λ l. joined r ++ (13 ∷ 10 ∷ l)) (lines_push rs cs rest)
    ∙ sym (append_assoc (joined r) (13 ∷ 10 ∷ lines rs) (joined cs ++ (13 ∷ 10 ∷ rest)))

append_none : (xs : List ℕ) → xs ++ [] ≡ xs
append_none [] = refl
append_none (x ∷ xs) = ap (λ l. x ∷ l) (append_none xs)

-- while text is left, each record so far has CR LF after it
so_far : {rs : List (List Cell)} {xs ys : List ℕ} → ReadUpTo rs xs ys → 0 < length ys → xs ≡ lines rs ++ ys
so_far none h = refl
so_far (next {rs} {xs} {ys} cs zs rest r some l (at_end e d)) h = absurd (omega (arith, ap length d))
so_far (next {rs} {xs} {ys} cs zs rest r some l (at_line e)) h =
    so_far r some ∙ ap (λ t. lines rs ++ t) (l.splits ∙ ap (λ t. joined cs ++ t) e) ∙ sym (lines_push rs cs rest)

rejoin : {rs : List (List Cell)} {xs ys : List ℕ} → ReadUpTo rs xs ys → ys ≡ [] → Rejoined rs xs
rejoin none e = closed e
rejoin (next {rs} {xs} {ys} cs zs rest r some l (at_end e d)) none_left =
    let all : xs ≡ lines rs ++ joined cs = so_far r some ∙ ap (λ t. lines rs ++ t) (l.splits ∙ ap (λ t. joined cs ++ t) e ∙ append_none (joined cs)) in
    open_ended (ap (λ t. t ++ (13 ∷ 10 ∷ [])) all ∙ append_assoc (lines rs) (joined cs) (13 ∷ 10 ∷ []) ∙ sym (lines_push rs cs []) ∙ append_none (lines (rs ++ (cs ∷ []))))
rejoin (next {rs} {xs} {ys} cs zs rest r some l (at_line e)) none_left =
    closed (so_far r some ∙ ap (λ t. lines rs ++ t) (l.splits ∙ ap (λ t. joined cs ++ t) (e ∙ ap (λ t. 13 ∷ 10 ∷ t) none_left)) ∙ sym (lines_push rs cs []) ∙ append_none (lines (rs ++ (cs ∷ []))))

pub reading_rejoins : ReadingRejoins
reading_rejoins rs xs r = rejoin r refl
