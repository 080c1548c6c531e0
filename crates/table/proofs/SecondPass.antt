-- Reading the fields of a record that was read before: each is the record's next field.
use Rattle.std.proofs.Common.{◌≡◌, ℕ, ◌+◌, ◌<◌, List, [], ◌∷◌, length, get_or, drop, ap, subst, ⊎_elim, arith, length-drop}
use Rattle.std.proofs.lemmas.List.{drop_more, drop_all}
use Rattle.std.proofs.lemmas.Bool.{cases_lt}
use Rattle.table.specs.declared.field.FieldEnd.{FieldEnd}
use Rattle.table.specs.declared.line.LineEnd.{LineEnd}
use Rattle.table.specs.Cells.{Cell, cell_of}
use Rattle.table.specs.Lines.{Line, FieldRead, Leaves, LineRead, at_end, at_line}
use Rattle.table.proofs.Cuts.{stands_unique}
use Rattle.table.proofs.Chains.{line_one, line_more}

-- where a byte follows, the end is not reached
some_left : (xs : List ℕ) (n b : ℕ) (ys : List ℕ) → drop n xs ≡ b ∷ ys → n < length xs
some_left xs n b ys e =
    ⊎_elim
    (λ l. l)
    (λ past. let d = drop_all n xs past in let z : ◌≡◌ {A = ℕ} 0 1 = cc in absurd (omega arith))
    (cases_lt n (length xs))

-- a record that begins before the end is left behind
pub read_advances : {xs : List ℕ} {at : ℕ} {e : LineEnd} → LineRead xs at e → at < length xs → at < e.next
read_advances {xs} {at} {e} r l = advances r.leaves
  where
    advances : Leaves xs e.end e.next → at < e.next
    advances (at_end d is) = omega (arith, r.low, simp length-drop at (ap length d))
    advances (at_line d is) = omega (arith, r.low)

-- a field that is read where a record begins is the record's first
pub pass_same : (t : Cell) (ts : List Cell) {xs ys : List ℕ} {at rec fld : ℕ} {e : FieldEnd} → Line (t ∷ ts) (drop at xs) ys → FieldRead xs at rec fld e → cell_of e.field.text ≡ t
pass_same t [] l k = (stands_unique _ t k.stands (line_one t l)).0
pass_same t (u ∷ us) l k = (stands_unique _ t k.stands (line_more t u us l).stands).0

-- after any other field follows a comma, and then a record of the other fields
pub record Passed (us : List Cell) (xs ys : List ℕ) (e : FieldEnd) : Type 0 where
  pub inside : e.next < length xs
  pub comma_next : get_or xs e.next 0 ≡ 44
  pub others : Line us (drop (e.next + 1) xs) ys

pub pass_more : (t u : Cell) (us : List Cell) {xs ys : List ℕ} {at rec fld : ℕ} {e : FieldEnd} → Line (t ∷ u ∷ us) (drop at xs) ys → FieldRead xs at rec fld e → Passed (u ∷ us) xs ys e
pass_more t u us {xs} {ys} {e = e} l k =
    let f = line_more t u us l in
    let there : drop e.next xs ≡ 44 ∷ f.after = (stands_unique _ t k.stands f.stands).1 in
    let before : e.next < length xs = some_left xs e.next 44 f.after there in
    let d = drop_more xs e.next 0 before in
    let rest : f.after ≡ drop (e.next + 1) xs = cc in
    record { inside = before; comma_next = cc; others = subst (λ l. Line (u ∷ us) l ys) rest f.line }
