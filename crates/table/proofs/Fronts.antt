-- Which field stands at the front of a list, or that none does, from what the loops over its bytes found.
use Rattle.std.proofs.Common.{◌≡◌, ℕ, Bool, true, false, refl, ◌+◌, ◌<◌, ◌≤◌, List, [], ◌∷◌, ◌++◌, length, get_or, take, drop, Some, None, Option, sym, ap, ◌∙◌, subst, arith, length-append, take-append-drop, MatchOption}
use Rattle.std.specs.List.{AllByRecursion}
use Rattle.std.specs.Bool.{then_some}
use Rattle.std.proofs.lemmas.List.{length-take-le, drop-drop}
use Rattle.table.specs.Cells.{Cell, plain, quoted, written, Bare, Stops, Paired, ClosedAt, Ends, Stands, InFront, MalformedAt}
use Rattle.table.proofs.Cuts.{ends_stop, ends_unquoted, bare_cut, paired_cut, paired_open, written_quoted, not_plain}

pub plain_stands : (xs : List ℕ) (n : ℕ) → n ≤ length xs → AllByRecursion Bare (take n xs) → Ends (drop n xs) → InFront (plain (take n xs)) xs
plain_stands xs n l b e =
    subst (λ m. Stands (plain (take n xs)) xs (drop m xs)) (sym (length-take-le n xs l))
    (record { splits = sym (take-append-drop n xs); sound = b; ends = e })

pub plain_none : (xs : List ℕ) (n : ℕ) → AllByRecursion Bare (take n xs) → Stops (drop n xs) → (Ends (drop n xs) → ⊥) → (bs ys : List ℕ) → Stands (plain bs) xs ys → ⊥
plain_none xs n b stops open-end bs ys s =
    let r = bare_cut bs (take n xs) ys (drop n xs) s.sound b (ends_stop ys s.ends) stops (sym s.splits ∙ sym (take-append-drop n xs)) in
    open-end (subst Ends r.1 s.ends)

-- up to the closing quote, and from it on
cut_at : (xs : List ℕ) (n : ℕ) → ClosedAt xs n → xs ≡ take n xs ++ (34 ∷ drop (n + 1) xs)
cut_at xs n c = sym (ap (λ l. take n xs ++ l) (sym c.quote) ∙ take-append-drop n xs)

pub quoted_stands : (xs : List ℕ) (n : ℕ) → ClosedAt xs n → Ends (drop (n + 1) xs) → InFront (quoted (take n xs)) (34 ∷ xs)
quoted_stands xs n c e =
    let front = length-take-le n xs (omega (arith, c.within)) in
    let size : n + 1 ≡ length (take n xs ++ (34 ∷ [])) = simp length-append (omega arith) in
    subst (λ m. Stands (quoted (take n xs)) (34 ∷ xs) (drop m xs)) size
    (record {
      splits = ap (λ l. 34 ∷ l) (cut_at xs n c) ∙ sym (written_quoted (take n xs) (drop (n + 1) xs));
      sound = c.paired;
      ends = e;
    })

-- what follows an opening quote
inside : {bs xs ys : List ℕ} → Stands (quoted bs) (34 ∷ xs) ys → xs ≡ bs ++ (34 ∷ ys)
inside {bs} {xs} {ys} s = let e : 34 ∷ xs ≡ 34 ∷ (bs ++ (34 ∷ ys)) = s.splits ∙ written_quoted bs ys in cc

pub quoted_none : (xs : List ℕ) (n : ℕ) → ClosedAt xs n → (Ends (drop (n + 1) xs) → ⊥) → (bs ys : List ℕ) → Stands (quoted bs) (34 ∷ xs) ys → ⊥
quoted_none xs n c open-end bs ys s =
    let r = paired_cut s.sound c.paired ys (drop (n + 1) xs) (ends_unquoted ys s.ends) c.alone (sym (inside s) ∙ cut_at xs n c) in
    open-end (subst Ends r.1 s.ends)

pub quoted_open : (xs : List ℕ) → Paired xs → (bs ys : List ℕ) → Stands (quoted bs) (34 ∷ xs) ys → ⊥
quoted_open xs p bs ys s = paired_open p s.sound ys (ends_unquoted ys s.ends) (inside s)

-- what begins with a quote is a quoted field or none
pub only_quoted : (xs : List ℕ) → ((bs ys : List ℕ) → Stands (quoted bs) (34 ∷ xs) ys → ⊥) → MalformedAt (34 ∷ xs)
only_quoted xs none (plain bs) ys s = not_plain bs xs ys s
only_quoted xs none (quoted bs) ys s = none bs ys s

-- what does not begin with a quote is a plain field or none
pub only_plain : (xs : List ℕ) → (0 < length xs → get_or xs 0 0 ≡ 34 → ⊥) → ((bs ys : List ℕ) → Stands (plain bs) xs ys → ⊥) → MalformedAt xs
only_plain xs other none (plain bs) ys s = none bs ys s
only_plain xs other none (quoted bs) ys s =
    let e : xs ≡ 34 ∷ (bs ++ (34 ∷ ys)) = s.splits ∙ written_quoted bs ys in
    other (subst (λ l. 0 < length l) (sym e) (omega arith)) (ap (λ l. get_or l 0 0) e)

pub stands_at : (xs : List ℕ) (at : ℕ) (t : Cell) → InFront t (drop at xs) → Stands t (drop at xs) (drop (at + length (written t)) xs)
stands_at xs at t s = subst (Stands t (drop at xs)) (drop-drop (length (written t)) at xs) s

pub width_le : {t : Cell} {xs ys : List ℕ} → Stands t xs ys → length (written t) ≤ length xs
width_le {t} {xs} {ys} s = omega (arith, simp length-append at (ap length s.splits))

-- what holds of an answer, weakened in each case
pub either_way : {X : Type 0} {P Q : Type 0} {R S : X → Type 0} (o : Option X) → MatchOption o P R → (P → Q) → ((x : X) → R x → S x) → MatchOption o Q S
either_way None p f g = f p
either_way (Some x) r f g = g x r

-- what holds of a value that is given only where a test holds
pub some_if : {X : Type 0} (P : Type 0) (R : X → Type 0) (b : Bool) (x : X) → (b ≡ true → R x) → ((b ≡ true → ⊥) → P) → MatchOption (then_some b x) P R
some_if P R b x holds fails =
    elim b as (λ t. (t ≡ true → R x) → ((t ≡ true → ⊥) → P) → MatchOption (then_some t x) P R) [ true ↦ λ y n. y refl | false ↦ λ y n. n (λ e. cc) ] holds fails
