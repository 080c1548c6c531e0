-- Reading a record field by field: what each field that is read adds, and what is known at a fault and at the end.
use Rattle.std.proofs.Common.{◌≡◌, ℕ, ◌+◌, ◌<◌, ◌≤◌, List, [], ◌∷◌, ◌++◌, length, get_or, drop, sym, refl, ap, ◌∙◌, subst, ⊎_elim, arith, length-drop}
use Rattle.std.proofs.lemmas.List.{drop_more, drop_all, drop-drop, length_push}
use Rattle.std.proofs.lemmas.Bool.{cases_lt}
use Rattle.table.specs.declared.fault.TextFault.{TextFault}
use Rattle.table.specs.declared.fault.TextFault.TheVariants.{Malformed}
use Rattle.table.specs.declared.field.FieldEnd.{FieldEnd}
use Rattle.table.specs.Cells.{Cell, Closes, at_end, at_line, Ends, at_comma, at_close, Stands, MalformedAt}
use Rattle.table.specs.Lines.{most_bytes, Begins, Broken, FieldRead, Leaves, LineRead, LineRefused}
use Rattle.table.specs.Lines as lines
use Rattle.table.proofs.Chains.{begins_more, line_last}

-- `fields` fields of the record at byte `at` are read, and the last of them ends at byte `end`
pub record Sofar (xs : List ℕ) (at fields end : ℕ) : Type 0 where
  pub before : List Cell
  pub last : Cell
  pub rest : List ℕ
  pub begins : Begins before (drop at xs) rest
  pub stands : Stands last rest (drop end xs)
  pub count : fields ≡ length before + 1
  pub wide : fields + at ≤ end + 1
  pub few : fields ≤ length xs + 1
  pub within : at ≤ length xs → end ≤ length xs

pub sofar_first : {xs : List ℕ} {at rec fld : ℕ} {e : FieldEnd} → FieldRead xs at rec fld e → Sofar xs at 1 e.next
sofar_first {xs} {at} t = record {
  before = [];
  last = _;
  rest = drop at xs;
  begins = record { splits = refl; sound = tt };
  stands = t.stands;
  count = refl;
  wide = omega (arith, t.width);
  few = omega arith;
  within = t.within;
}

-- a comma at byte `end`, and the bytes after it
comma : (xs : List ℕ) (end : ℕ) → end < length xs → get_or xs end 0 ≡ 44 → drop end xs ≡ 44 ∷ drop (end + 1) xs
comma xs end l e = drop_more xs end 0 l ∙ ap (λ b. b ∷ drop (end + 1) xs) e

-- the fields read so far, when a comma follows
onward : {xs : List ℕ} {at fields end : ℕ} (s : Sofar xs at fields end) → end < length xs → get_or xs end 0 ≡ 44 → Begins (s.before ++ (s.last ∷ [])) (drop at xs) (drop (end + 1) xs)
onward {xs} {end = end} s l e = begins_more s.before s.last s.begins (subst (Stands s.last s.rest) (comma xs end l e) s.stands)

pub sofar_more : {xs : List ℕ} {at fields end rec fld : ℕ} {e : FieldEnd} → Sofar xs at fields end → end < length xs → get_or xs end 0 ≡ 44 → FieldRead xs (end + 1) rec fld e → Sofar xs at (fields + 1) e.next
sofar_more {xs} {end = end} s l e t = record {
  before = s.before ++ (s.last ∷ []);
  last = _;
  rest = drop (end + 1) xs;
  begins = onward s l e;
  stands = t.stands;
  count = simp length_push (omega (arith, s.count));
  wide = omega (arith, t.width, s.wide);
  few = omega (arith, s.wide);
  within = λ _. t.within (omega arith);
}

pub sofar_broken : {xs : List ℕ} {at fields end : ℕ} → Sofar xs at fields end → end < length xs → get_or xs end 0 ≡ 44 → MalformedAt (drop (end + 1) xs) → Broken (drop at xs) (fields + 1)
sofar_broken {xs} {end = end} s l e none = record {
  before = s.before ++ (s.last ∷ []);
  rest = drop (end + 1) xs;
  begins = onward s l e;
  place = simp length_push (omega (arith, s.count));
  malformed = none;
}

pub refused_field : (xs : List ℕ) (at rec f : ℕ) (e : TextFault) → e ≡ Malformed rec f → Broken (drop at xs) f → length xs ≤ most_bytes → LineRefused xs at rec e
refused_field xs at rec f e is broken short = subst (LineRefused xs at rec) (sym is) (refl, broken, short)

-- no comma follows, so the record closes
closed : (xs : List ℕ) (end : ℕ) → Ends (drop end xs) → (end < length xs → get_or xs end 0 ≡ 44 → ⊥) → Closes (drop end xs)
closed xs end (at_close c) no-comma = c
closed xs end (at_comma ys e) no-comma =
    ⊎_elim
    (λ l. let d = drop_more xs end 0 l in let same : get_or xs end 0 ≡ 44 = cc in absurd (no-comma l same))
    (λ past. at_end (drop_all end xs past))
    (cases_lt end (length xs))

-- where the record leaves off
leaving : (xs : List ℕ) (end : ℕ) → Closes (drop end xs) → (n : ℕ) → (end < length xs → n ≡ end + 2) → (length xs ≤ end → n ≡ end) → Leaves xs end n
leaving xs end (at_end e) n in' past =
    ⊎_elim
    (λ l. let d = drop_more xs end 0 l in let z : ◌≡◌ {A = ℕ} 0 1 = cc in absurd (omega arith))
    (λ l. lines.at_end e (past l))
    (cases_lt end (length xs))
leaving xs end (at_line ys e) n in' past =
    ⊎_elim
    (λ l.
    let two : n ≡ end + 2 = in' l in
    let rest : ys ≡ drop n xs = ap (drop 2) (sym e) ∙ drop-drop 2 end xs ∙ ap (λ m. drop m xs) (sym two) in
    lines.at_line (e ∙ ap (λ zs. 13 ∷ 10 ∷ zs) rest) two)
    (λ l. let d = drop_all end xs l in let z : ◌≡◌ {A = ℕ} 0 1 = cc in absurd (omega arith))
    (cases_lt end (length xs))

leaves_within : (xs : List ℕ) (end n : ℕ) → Leaves xs end n → end ≤ length xs → n ≤ length xs
leaves_within xs end n (lines.at_end e is) l = omega arith
leaves_within xs end n (lines.at_line e is) l =
    let long = ap length e in
    omega (arith, length-drop end xs)

pub sofar_done : {xs : List ℕ} {at fields end : ℕ} → Sofar xs at fields end → length xs ≤ most_bytes → (end < length xs → get_or xs end 0 ≡ 44 → ⊥) → (n : ℕ) → (end < length xs → n ≡ end + 2) → (length xs ≤ end → n ≡ end) → LineRead xs at (record { fields = fields; end = end; next = n })
sofar_done {xs} {end = end} s short no-comma n in' past =
    let c = closed xs end s.stands.ends no-comma in
    let off = leaving xs end c n in' past in
    record {
      cells = s.before ++ (s.last ∷ []);
      line = line_last s.before s.last s.begins s.stands c;
      count = simp length_push s.count;
      low = omega (arith, s.wide, s.count);
      within = s.within;
      leaves = off;
      next_within = λ l. leaves_within xs end n off (s.within l);
      short = short;
    }
