-- The fields of a record one by one: how a record is built up, taken apart again, and determined by its bytes.
use Rattle.std.proofs.Common.{◌≡◌, ℕ, suc, List, [], ◌∷◌, ◌++◌, length, sym, refl, ap, ◌∙◌, subst, append_assoc, arith}
use Rattle.std.proofs.ByRecursion.{All-push}
use Rattle.std.proofs.lemmas.List.{length_push}
use Rattle.table.specs.Cells.{Cell, written, Sound, Closes, at_end, at_line, at_comma, at_close, Stands, MalformedAt}
use Rattle.table.specs.Lines.{joined, Line, led, Begins, Broken}
use Rattle.table.proofs.Cuts.{stands_unique}

-- a record does not end at a comma
not_comma : (xs ys : List ℕ) → Closes xs → xs ≡ 44 ∷ ys → ⊥
not_comma xs ys (at_end e) f = let z : ◌≡◌ {A = ℕ} 0 1 = cc in omega arith
not_comma xs ys (at_line zs e) f = let z : ◌≡◌ {A = ℕ} 13 44 = cc in omega arith

pub line_some : {xs ys : List ℕ} → Line [] xs ys → ⊥
line_some l = omega (arith, l.some)

-- a record of one field
pub line_one : (t : Cell) {xs ys : List ℕ} → Line (t ∷ []) xs ys → Stands t xs ys
line_one t l = record { splits = l.splits; sound = l.sound.0; ends = at_close l.closes }

-- a record of more fields: the first stands before a comma, and the others are the record after it
pub record First (t : Cell) (us : List Cell) (xs ys : List ℕ) : Type 0 where
  pub after : List ℕ
  pub stands : Stands t xs (44 ∷ after)
  pub line : Line us after ys

pub line_more : (t u : Cell) (us : List Cell) {xs ys : List ℕ} → Line (t ∷ u ∷ us) xs ys → First t (u ∷ us) xs ys
line_more t u us {xs} {ys} l = record {
  after = joined (u ∷ us) ++ ys;
  stands = record {
    splits = l.splits ∙ append_assoc (written t) (44 ∷ joined (u ∷ us)) ys;
    sound = l.sound.0;
    ends = at_comma (joined (u ∷ us) ++ ys) refl;
  };
  line = record { splits = refl; sound = l.sound.1; some = omega arith; closes = l.closes };
}

-- the fields of a record, and what follows it, are determined by the bytes
pub line_unique : (ts us : List Cell) {xs ys zs : List ℕ} → Line ts xs ys → Line us xs zs → (ts ≡ us) × (ys ≡ zs)
line_unique [] us a b = absurd (line_some a)
line_unique (t ∷ ts) [] a b = absurd (line_some b)
line_unique (t ∷ []) (u ∷ []) a b =
    let r = stands_unique t u (line_one t a) (line_one u b) in
    (ap (λ x. x ∷ []) r.0, r.1)
line_unique (t ∷ []) (u ∷ v ∷ vs) {ys = ys} a b =
    let f = line_more u v vs b in
    absurd (not_comma ys f.after a.closes (stands_unique t u (line_one t a) f.stands).1)
line_unique (t ∷ s ∷ ts) (u ∷ []) {zs = zs} a b =
    let f = line_more t s ts a in
    absurd (not_comma zs f.after b.closes (stands_unique u t (line_one u b) f.stands).1)
line_unique (t ∷ s ∷ ts) (u ∷ v ∷ vs) {ys = ys} {zs = zs} a b =
    let f = line_more t s ts a in
    let g = line_more u v vs b in
    let r = stands_unique t u f.stands g.stands in
    let one : t ≡ u = r.0 in
    let commas : 44 ∷ f.after ≡ 44 ∷ g.after = r.1 in
    let rest : g.after ≡ f.after = cc in
    let more = line_unique (s ∷ ts) (v ∷ vs) f.line (subst (λ l. Line (v ∷ vs) l zs) rest g.line) in
    let others : s ∷ ts ≡ v ∷ vs = more.0 in
    (cc, more.1)

-- at the beginning of a record a field stands
pub line_stands : (ts : List Cell) {xs ys : List ℕ} → Line ts xs ys → MalformedAt xs → ⊥
line_stands [] l none = line_some l
line_stands (t ∷ []) {ys = ys} l none = none t ys (line_one t l)
line_stands (t ∷ u ∷ us) l none = let f = line_more t u us l in none t (44 ∷ f.after) f.stands

-- fields with a comma after each: the first stands before its comma, and the others follow it
begins_first : (t : Cell) (ts : List Cell) {xs ys : List ℕ} → Begins (t ∷ ts) xs ys → Stands t xs (44 ∷ (led ts ++ ys))
begins_first t ts {ys = ys} b = record {
  splits = b.splits ∙ append_assoc (written t) (44 ∷ led ts) ys;
  sound = b.sound.0;
  ends = at_comma (led ts ++ ys) refl;
}

begins_others : (t : Cell) (ts : List Cell) {xs ys : List ℕ} → Begins (t ∷ ts) xs ys → Begins ts (led ts ++ ys) ys
begins_others t ts b = record { splits = refl; sound = b.sound.1 }

-- a field that does not stand after sound fields and their commas is in no record
apart : (bs ts : List Cell) {xs rest ys : List ℕ} → Begins bs xs rest → MalformedAt rest → Line ts xs ys → ⊥
apart [] ts {ys = ys} b none l = line_stands ts (subst (λ xs. Line ts xs ys) b.splits l) none
apart (t ∷ bs) [] b none l = line_some l
apart (t ∷ bs) (u ∷ []) {rest = rest} {ys = ys} b none l =
    not_comma ys (led bs ++ rest) l.closes (stands_unique u t (line_one u l) (begins_first t bs b)).1
apart (t ∷ bs) (u ∷ v ∷ vs) {rest = rest} {ys = ys} b none l =
    let f = line_more u v vs l in
    let commas : 44 ∷ f.after ≡ 44 ∷ (led bs ++ rest) = (stands_unique u t f.stands (begins_first t bs b)).1 in
    let after : f.after ≡ led bs ++ rest = cc in
    apart bs (v ∷ vs) (begins_others t bs b) none (subst (λ xs. Line (v ∷ vs) xs ys) after f.line)

pub line_not_broken : (ts : List Cell) {xs ys : List ℕ} {f : ℕ} → Line ts xs ys → Broken xs f → ⊥
line_not_broken ts l b = apart b.before ts b.begins b.malformed l

-- the first field that does not stand is the same, however the fields before it are read
level : (bs cs : List Cell) {xs ys zs : List ℕ} → Begins bs xs ys → MalformedAt ys → Begins cs xs zs → MalformedAt zs → length bs ≡ length cs
level [] [] b none d nor = refl
level [] (u ∷ cs) b none d nor = absurd (subst MalformedAt (sym b.splits) none u _ (begins_first u cs d))
level (t ∷ bs) [] b none d nor = absurd (subst MalformedAt (sym d.splits) nor t _ (begins_first t bs b))
level (t ∷ bs) (u ∷ cs) {ys = ys} {zs = zs} b none d nor =
    let commas : 44 ∷ (led cs ++ zs) ≡ 44 ∷ (led bs ++ ys) = (stands_unique u t (begins_first u cs d) (begins_first t bs b)).1 in
    let after : led cs ++ zs ≡ led bs ++ ys = cc in
    ap suc (level bs cs (begins_others t bs b) none (subst (λ xs. Begins cs xs zs) after (begins_others u cs d)) nor)

pub broken_unique : {xs : List ℕ} {f g : ℕ} → Broken xs f → Broken xs g → f ≡ g
broken_unique b d = omega (arith, b.place, d.place, level b.before d.before b.begins b.malformed d.begins d.malformed)

-- fields with a comma after each, and one more
led_push : (ts : List Cell) (t : Cell) (zs : List ℕ) → led (ts ++ (t ∷ [])) ++ zs ≡ led ts ++ (written t ++ (44 ∷ zs))
led_push [] t zs = append_assoc (written t) (44 ∷ []) zs
led_push (u ∷ us) t zs =
    append_assoc (written u) (44 ∷ led (us ++ (t ∷ []))) zs
    ∙ ap (λ l. written u ++ (44 ∷ l)) (led_push us t zs)
    ∙ sym (append_assoc (written u) (44 ∷ led us) (written t ++ (44 ∷ zs)))

-- the last field of a record has no comma after it
joined_push : (ts : List Cell) (t : Cell) (zs : List ℕ) → joined (ts ++ (t ∷ [])) ++ zs ≡ led ts ++ (written t ++ zs)
joined_push [] t zs = refl
joined_push (u ∷ []) t zs =
    append_assoc (written u) (44 ∷ written t) zs
    ∙ sym (append_assoc (written u) (44 ∷ []) (written t ++ zs))
joined_push (u ∷ v ∷ vs) t zs =
    append_assoc (written u) (44 ∷ joined (v ∷ (vs ++ (t ∷ [])))) zs
    ∙ ap (λ l. written u ++ (44 ∷ l)) (joined_push (v ∷ vs) t zs)
    ∙ sym (append_assoc (written u) (44 ∷ led (v ∷ vs)) (written t ++ zs))

pub begins_more : (ts : List Cell) (t : Cell) {xs ys zs : List ℕ} → Begins ts xs ys → Stands t ys (44 ∷ zs) → Begins (ts ++ (t ∷ [])) xs zs
begins_more ts t {zs = zs} b s = record {
  splits = b.splits ∙ ap (λ l. led ts ++ l) s.splits ∙ sym (led_push ts t zs);
  sound = All-push Sound ts t b.sound s.sound;
}

pub line_last : (ts : List Cell) (t : Cell) {xs ys zs : List ℕ} → Begins ts xs ys → Stands t ys zs → Closes zs → Line (ts ++ (t ∷ [])) xs zs
line_last ts t {zs = zs} b s c = record {
  splits = b.splits ∙ ap (λ l. led ts ++ l) s.splits ∙ sym (joined_push ts t zs);
  sound = All-push Sound ts t b.sound s.sound;
  some = simp length_push (omega arith);
  closes = c;
}
