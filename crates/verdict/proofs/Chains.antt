-- Records read one after the other are determined by the text.
use Rattle.std.proofs.Common.{◌≡◌, ℕ, ◌<◌, List, [], ◌∷◌, ◌++◌, length, sym, refl, ap, ◌∙◌, subst, arith}
use Rattle.std.proofs.lemmas.List.{length_push, same_from_push}
use Rattle.table.specs.Cells.{Cell}
use Rattle.table.specs.Lines.{Line}
use Rattle.table.specs.Tables.{Passes, at_end, at_line, ReadUpTo, none, next}
use Rattle.table.proofs.Chains.{line_unique}

pub passes_unique : (ys a b : List ℕ) → Passes ys a → Passes ys b → a ≡ b
passes_unique ys a b (at_end e d) (at_end e' d') = d ∙ sym d'
passes_unique ys a b (at_end e d) (at_line e') = let z : ◌≡◌ {A = ℕ} 0 1 = cc in absurd (omega arith)
passes_unique ys a b (at_line e) (at_end e' d') = let z : ◌≡◌ {A = ℕ} 0 1 = cc in absurd (omega arith)
passes_unique ys a b (at_line e) (at_line e') = cc

-- as many records from the same text are the same records, and leave the same
pub same_read : {rs ss : List (List Cell)} {xs ys zs : List ℕ} → ReadUpTo rs xs ys → ReadUpTo ss xs zs → length rs ≡ length ss → (rs ≡ ss) × (ys ≡ zs)
same_read none none e = (refl, refl)
same_read none (next {rs = ss} cs us rest r some l p) e = absurd (omega (arith, length_push ss cs))
same_read (next {rs} cs us rest r some l p) none e = absurd (omega (arith, length_push rs cs))
same_read (next {rs} cs us rest r some l p) (next {rs = ss} ds bs rest' q some' k o) e =
    let before = same_read r q (omega (arith, length_push rs cs, length_push ss ds)) in
    let here = line_unique cs ds l (subst (λ (t : List ℕ). Line ds t bs) (sym before.1) k) in (
      ap (λ (t : List (List Cell)). t ++ (cs ∷ [])) before.0 ∙ ap (λ (c : List Cell). ss ++ (c ∷ [])) here.0,
      passes_unique us rest rest' p (subst (λ (t : List ℕ). Passes t rest') (sym here.1) o),
    )

-- the last record of a reading, and the reading before it
pub record Last (rs : List (List Cell)) (cs : List Cell) (xs rest : List ℕ) : Type 0 where
  pub left : List ℕ
  pub after : List ℕ
  pub before : ReadUpTo rs xs left
  pub some : 0 < length left
  pub line : Line cs left after
  pub passes : Passes after rest

pub last_read : (rs : List (List Cell)) (cs : List Cell) {qs : List (List Cell)} {xs rest : List ℕ} → ReadUpTo qs xs rest → qs ≡ rs ++ (cs ∷ []) → Last rs cs xs rest
last_read rs cs none e = absurd (omega (arith, ap length e, length_push rs cs))
last_read rs cs (next {rs = ps} {xs} {ys} ds us rest r some l p) e =
    let same = same_from_push ps rs ds cs e in
    record {
      left = ys;
      after = us;
      before = subst (λ (t : List (List Cell)). ReadUpTo t xs ys) same.0 r;
      some = some;
      line = subst (λ (c : List Cell). Line c ys us) same.1 l;
      passes = p;
    }

-- the first record of a reading stands at the beginning of the text
pub record Front (h : List Cell) (xs : List ℕ) : Type 0 where
  pub after : List ℕ
  pub some : 0 < length xs
  pub line : Line h xs after

-- a reading that has no record yet, or begins with one
pub data Begun (qs : List (List Cell)) (xs rest : List ℕ) : Type 0 where
  not_yet : qs ≡ [] → rest ≡ xs → Begun qs xs rest
  with : (h : List Cell) (ts : List (List Cell)) → qs ≡ h ∷ ts → Front h xs → Begun qs xs rest

more : {ps : List (List Cell)} {xs ys : List ℕ} (cs : List Cell) (us rest : List ℕ) → Begun ps xs ys → 0 < length ys → Line cs ys us → Begun (ps ++ (cs ∷ [])) xs rest
more {ps} {xs} cs us rest (not_yet e d) some l =
    with cs [] (ap (λ (t : List (List Cell)). t ++ (cs ∷ [])) e) (record { after = us; some = subst (λ (t : List ℕ). 0 < length t) d some; line = subst (λ (t : List ℕ). Line cs t us) d l })
more {ps} cs us rest (with h ts e f) some l = with h (ts ++ (cs ∷ [])) (ap (λ (t : List (List Cell)). t ++ (cs ∷ [])) e) f

begun : {qs : List (List Cell)} {xs rest : List ℕ} → ReadUpTo qs xs rest → Begun qs xs rest
begun none = not_yet refl refl
begun (next cs us rest r some l p) = more cs us rest (begun r) some l

from : (h : List Cell) (rs : List (List Cell)) {qs : List (List Cell)} {xs rest : List ℕ} → Begun qs xs rest → qs ≡ h ∷ rs → Front h xs
from h rs (not_yet e d) is = absurd (omega (arith, ap length (sym e ∙ is)))
from h rs {xs = xs} (with k ts e f) is = let same : k ≡ h = cc in subst (λ (c : List Cell). Front c xs) same f

pub front : (h : List Cell) (rs : List (List Cell)) {xs rest : List ℕ} → ReadUpTo (h ∷ rs) xs rest → Front h xs
front h rs r = from h rs (begun r) refl
