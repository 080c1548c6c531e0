-- Numbers with blanks between them, one number further on and at the end.
use Rattle.std.proofs.Common.{◌≡◌, ℕ, ◌+◌, ◌-◌, ◌<◌, ◌≤◌, List, [], ◌∷◌, ◌++◌, length, get_or, take, drop, decimal, sym, ap, ◌∙◌, arith}
use Rattle.std.specs.List.{flat_map}
use Rattle.std.proofs.lemmas.List.{flat_map_more, take_all, take_more}
use Rattle.report.specs.Texts.{after_blank, spaced}

pub spaced_more : (front : List ℕ) (ns : List ℕ) (i : ℕ) (text : List ℕ) → i < length ns → text ≡ front ++ flat_map after_blank (take i ns) → text ++ after_blank (get_or ns i 0) ≡ front ++ flat_map after_blank (take (i + 1) ns)
spaced_more front ns i text h is =
    ap (λ (t : List ℕ). t ++ after_blank (get_or ns i 0)) is
    ∙ flat_map_more after_blank front (take i ns) (get_or ns i 0)
    ∙ ap (λ (l : List ℕ). front ++ flat_map after_blank l) (sym (take_more ns i 0 h))

-- all numbers after the first were written
pub spaced_all : (ns : List ℕ) (i : ℕ) → 1 ≤ length ns → length (take (length ns - 1) (drop 1 ns)) ≤ i → decimal (get_or ns 0 0) ++ flat_map after_blank (take i (take (length ns - 1) (drop 1 ns))) ≡ spaced ns
spaced_all [] i some h = absurd (omega arith)
spaced_all (n ∷ ns) i some h =
    ap (λ (l : List ℕ). decimal n ++ flat_map after_blank l) (take_all i _ h ∙ take_all (length (n ∷ ns) - 1) ns (omega arith))
