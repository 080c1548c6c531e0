-- Where a field ends is determined by its bytes: the text that stands at the front, and what follows it, are unique.
use Rattle.std.proofs.Common.{◌≡◌, ℕ, List, [], ◌∷◌, ◌++◌, sym, refl, ap, ◌∙◌, subst, append_assoc, arith}
use Rattle.std.specs.List.{AllByRecursion}
use Rattle.table.specs.Cells.{Cell, plain, quoted, written, Bare, Stops, Unquoted, Paired, empty, pair, other, at_end, at_line, Ends, at_comma, at_close, Stands}

pub ends_stop : (ys : List ℕ) → Ends ys → Stops ys
ends_stop ys (at_comma zs e) b ws f bare = bare.0 (cc)
ends_stop ys (at_close (at_end e)) b ws f bare = let z : ◌≡◌ {A = ℕ} 0 1 = cc in omega arith
ends_stop ys (at_close (at_line zs e)) b ws f bare = bare.2 (cc)

pub ends_unquoted : (ys : List ℕ) → Ends ys → Unquoted ys
ends_unquoted ys (at_comma zs e) ws f = let z : ◌≡◌ {A = ℕ} 44 34 = cc in omega arith
ends_unquoted ys (at_close (at_end e)) ws f = let z : ◌≡◌ {A = ℕ} 0 1 = cc in omega arith
ends_unquoted ys (at_close (at_line zs e)) ws f = let z : ◌≡◌ {A = ℕ} 13 34 = cc in omega arith

-- bare bytes up to one that is not bare
pub bare_cut : (bs cs ys zs : List ℕ) → AllByRecursion Bare bs → AllByRecursion Bare cs → Stops ys → Stops zs → bs ++ ys ≡ cs ++ zs → (bs ≡ cs) × (ys ≡ zs)
bare_cut [] [] ys zs p q s t e = (refl, e)
bare_cut [] (c ∷ cs) ys zs p q s t e = absurd (s c (cs ++ zs) e q.0)
bare_cut (b ∷ bs) [] ys zs p q s t e = absurd (t b (bs ++ ys) (sym e) p.0)
bare_cut (b ∷ bs) (c ∷ cs) ys zs p q s t e =
    let first : b ≡ c = cc in
    let rest : bs ++ ys ≡ cs ++ zs = cc in
    let more = bare_cut bs cs ys zs p.1 q.1 s t rest in
    let same : bs ≡ cs = more.0 in
    (cc, more.1)

-- pairs of quotes and other bytes up to a quote with no quote after it
pub paired_cut : {bs cs : List ℕ} → Paired bs → Paired cs → (ys zs : List ℕ) → Unquoted ys → Unquoted zs → bs ++ (34 ∷ ys) ≡ cs ++ (34 ∷ zs) → (bs ≡ cs) × (ys ≡ zs)
paired_cut empty empty ys zs u v e = (refl, cc)
paired_cut empty (pair {bs = cs} q) ys zs u v e = absurd (u (cs ++ (34 ∷ zs)) (cc))
paired_cut empty (other d q) ys zs u v e = absurd (d (cc))
paired_cut (pair {bs} p) empty ys zs u v e = absurd (v (bs ++ (34 ∷ ys)) (cc))
paired_cut (pair {bs} p) (pair {bs = cs} q) ys zs u v e =
    let rest : bs ++ (34 ∷ ys) ≡ cs ++ (34 ∷ zs) = cc in
    let more = paired_cut p q ys zs u v rest in
    let same : bs ≡ cs = more.0 in
    (cc, more.1)
paired_cut (pair p) (other d q) ys zs u v e = absurd (d (cc))
paired_cut (other d p) empty ys zs u v e = absurd (d (cc))
paired_cut (other d p) (pair q) ys zs u v e = absurd (d (cc))
paired_cut (other {b} {bs} d p) (other {b = c} {bs = cs} f q) ys zs u v e =
    let first : b ≡ c = cc in
    let rest : bs ++ (34 ∷ ys) ≡ cs ++ (34 ∷ zs) = cc in
    let more = paired_cut p q ys zs u v rest in
    let same : bs ≡ cs = more.0 in
    (cc, more.1)

-- where quotes stand only in pairs, none closes
pub paired_open : {bs cs : List ℕ} → Paired bs → Paired cs → (ys : List ℕ) → Unquoted ys → bs ≡ cs ++ (34 ∷ ys) → ⊥
paired_open empty empty ys u e = let z : ◌≡◌ {A = ℕ} 0 1 = cc in omega arith
paired_open empty (pair q) ys u e = let z : ◌≡◌ {A = ℕ} 0 1 = cc in omega arith
paired_open empty (other d q) ys u e = let z : ◌≡◌ {A = ℕ} 0 1 = cc in omega arith
paired_open (pair {bs} p) empty ys u e = u bs (cc)
paired_open (pair p) (pair q) ys u e = paired_open p q ys u (cc)
paired_open (pair p) (other d q) ys u e = d (cc)
paired_open (other d p) empty ys u e = d (cc)
paired_open (other d p) (pair q) ys u e = d (cc)
paired_open (other d p) (other f q) ys u e = paired_open p q ys u (cc)

-- a quoted field and what follows it, from its opening quote on
pub written_quoted : (bs ys : List ℕ) → written (quoted bs) ++ ys ≡ 34 ∷ (bs ++ (34 ∷ ys))
written_quoted bs ys = ap (λ l. 34 ∷ l) (append_assoc bs (34 ∷ []) ys)

-- what begins with a quote is no plain field
pub not_plain : (bs xs ys : List ℕ) → Stands (plain bs) (34 ∷ xs) ys → ⊥
not_plain [] xs ys s = ends_unquoted ys s.ends xs (sym s.splits)
not_plain (b ∷ bs) xs ys s = let e = s.splits in s.sound.0.1 (cc)

pub stands_unique : (t u : Cell) {xs ys zs : List ℕ} → Stands t xs ys → Stands u xs zs → (t ≡ u) × (ys ≡ zs)
stands_unique (plain bs) (plain cs) {ys = ys} {zs = zs} a b =
    let r = bare_cut bs cs ys zs a.sound b.sound (ends_stop ys a.ends) (ends_stop zs b.ends) (sym a.splits ∙ b.splits) in
    (ap plain r.0, r.1)
stands_unique (plain bs) (quoted cs) {xs} {ys} {zs} a b =
    absurd (not_plain bs (cs ++ (34 ∷ zs)) ys (subst (λ l. Stands (plain bs) l ys) (b.splits ∙ written_quoted cs zs) a))
stands_unique (quoted bs) (plain cs) {xs} {ys} {zs} a b =
    absurd (not_plain cs (bs ++ (34 ∷ ys)) zs (subst (λ l. Stands (plain cs) l zs) (a.splits ∙ written_quoted bs ys) b))
stands_unique (quoted bs) (quoted cs) {xs} {ys} {zs} a b =
    let e : 34 ∷ (bs ++ (34 ∷ ys)) ≡ 34 ∷ (cs ++ (34 ∷ zs)) = sym (written_quoted bs ys) ∙ sym a.splits ∙ b.splits ∙ written_quoted cs zs in
    let r = paired_cut a.sound b.sound ys zs (ends_unquoted ys a.ends) (ends_unquoted zs b.ends) (cc) in
    (ap quoted r.0, r.1)
