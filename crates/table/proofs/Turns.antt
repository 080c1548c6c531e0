-- What one turn of the loops over a field's bytes keeps, and what its first bytes tell.
use Rattle.std.proofs.Common.{◌≡◌, ℕ, ◌+◌, ◌-◌, ◌<◌, List, [], ◌∷◌, ◌++◌, length, get_or, take, drop, sym, ap, ◌∙◌, subst, ⊎_elim, append_assoc, arith}
use Rattle.std.proofs.lemmas.List.{take_more, drop_more, drop_all}
use Rattle.std.proofs.lemmas.Slice.{first_rest}
use Rattle.std.proofs.lemmas.Bool.{cases_lt}
use Rattle.table.specs.Cells.{Paired, empty, pair, other, ClosedAt, Ends, at_comma, at_close, at_line}

paired_append : {bs cs : List ℕ} → Paired bs → Paired cs → Paired (bs ++ cs)
paired_append empty q = q
paired_append (pair p) q = pair (paired_append p q)
paired_append (other d p) q = other d (paired_append p q)

pub paired_other : (xs : List ℕ) (i : ℕ) → i < length xs → Paired (take i xs) → (get_or xs i 0 ≡ 34 → ⊥) → Paired (take (i + 1) xs)
paired_other xs i l p differs = subst Paired (sym (take_more xs i 0 l)) (paired_append p (other differs empty))

pub paired_pair : (xs : List ℕ) (i : ℕ) → i + 1 < length xs → Paired (take i xs) → get_or xs i 0 ≡ 34 → get_or xs (i + 1) 0 ≡ 34 → Paired (take (i + 2) xs)
paired_pair xs i l p one two =
    let first = take_more xs i 0 (omega arith) in
    let second = take_more xs (i + 1) 0 l in
    let on : i + 2 ≡ i + 1 + 1 = omega arith in
    let whole : take (i + 2) xs ≡ (take i xs ++ (34 ∷ [])) ++ (34 ∷ []) = cc in
    subst Paired (sym (whole ∙ append_assoc (take i xs) (34 ∷ []) (34 ∷ []))) (paired_append p (pair empty))

pub closed_here : (xs : List ℕ) (i : ℕ) → i < length xs → Paired (take i xs) → get_or xs i 0 ≡ 34 → (i + 1 < length xs → get_or xs (i + 1) 0 ≡ 34 → ⊥) → ClosedAt xs i
closed_here xs i l p is single = record {
  paired = p;
  within = l;
  quote = let d = drop_more xs i 0 l in cc;
  alone = λ ys e. ⊎_elim
      (λ in'. let d = drop_more xs (i + 1) 0 in' in let q : get_or xs (i + 1) 0 ≡ 34 = cc in single in' q)
      (λ past. let d = drop_all (i + 1) xs past in let z : ◌≡◌ {A = ℕ} 0 1 = cc in omega arith)
      (cases_lt (i + 1) (length xs));
}

pub ends_comma : (xs : List ℕ) → 0 < length xs → get_or xs 0 0 ≡ 44 → Ends xs
ends_comma [] l e = absurd (omega arith)
ends_comma (x ∷ xs) l e = at_comma xs (cc)

pub ends_line : (xs : List ℕ) → 1 < length xs → get_or xs 0 0 ≡ 13 → get_or xs 1 0 ≡ 10 → Ends xs
ends_line [] l e f = absurd (omega arith)
ends_line (x ∷ []) l e f = absurd (omega arith)
ends_line (x ∷ y ∷ xs) l e f = at_close (at_line xs (cc))

-- the first byte and the bytes after it, as a slice gives them
pub begins_with : (b : ℕ) (xs : List ℕ) → 0 < length xs → get_or xs 0 0 ≡ b → xs ≡ b ∷ take (length xs - 1) (drop 1 xs)
begins_with b xs l e = first_rest xs 0 l ∙ ap (λ a. a ∷ take (length xs - 1) (drop 1 xs)) e
