-- Records that each say one entry: the entries are determined, and so is the first record that says none.
use Rattle.std.proofs.Common.{◌≡◌, ℕ, ◌+◌, ◌<◌, List, [], ◌∷◌, length, get_or, sym, refl, ap, subst, ⊎_elim, arith}
use Rattle.std.proofs.lemmas.List.{length_push, get_or_append_left, get_or_push, same_from_push}
use Rattle.std.proofs.lemmas.Bool.{cases_lt}
use Rattle.surface.specs.declared.fault.SurfaceFault.{SurfaceFault}
use Rattle.surface.specs.declared.fault.SurfaceFault.TheVariants.{Text}
use Rattle.table.specs.Cells.{Cell}
use Rattle.table.specs.Lines.{Line, Broken}
use Rattle.table.specs.declared.fault.TextFault.{TextFault}
use Rattle.table.proofs.Chains.{line_unique, line_not_broken, broken_unique}
use Rattle.script.specs.Entries.{Entries, Partly, Entered, Stopped}
use Rattle.script.specs.Entries as entries
use Rattle.verdict.proofs.Chains.{same_read}
use Rattle.script_verdict.proofs.Readings.{ahead, level}

-- what one record says is determined, and so is why it says nothing; it never does both
pub record SaysOne {E : Type 0} (S : List Cell → E → Type 0) (U : ℕ → List Cell → TextFault → Type 0) : Type 0 where
  pub entry : (cs : List Cell) (d e : E) → S cs d → S cs e → d ≡ e
  pub fault : (rec : ℕ) (cs : List Cell) (t u : TextFault) → U rec cs t → U rec cs u → t ≡ u
  pub never : (rec : ℕ) (cs : List Cell) (e : E) (t : TextFault) → S cs e → U rec cs t → ⊥

module _ {E : Type 0} (S : List Cell → E → Type 0) where
  entry_at : {rs : List (List Cell)} {es : List E} → Entries S rs es → (k : ℕ) → k < length rs → (e : E) × S (get_or rs k []) e
  entry_at entries.none k h = absurd (omega arith)
  entry_at (entries.more {rs} cs e r s) k h =
      ⊎_elim
      (λ less. let at = entry_at r k less in (at.0, subst (λ (c : List Cell). S c at.0) (sym (get_or_append_left rs (cs ∷ []) [] k less)) at.1))
      (λ ge. (e, subst (λ (c : List Cell). S c e) (sym (get_or_push rs cs [] k (omega (arith, length_push rs cs)))) s))
      (cases_lt k (length rs))

  -- no record stands at the front of `rest` that says an entry
  abbrev NoEntry : List ℕ → Type 0
  NoEntry rest = (cs : List Cell) (ys : List ℕ) (e : E) → 0 < length rest → Line cs rest ys → S cs e → ⊥

  -- where one reading finds no further entry, no other goes past
  not_past : {text rest rest' : List ℕ} {es fs : List E} (p : Partly S text es rest) (q : Partly S text fs rest') → NoEntry rest → length p.records < length q.records → ⊥
  not_past p q none h =
      let l = ahead p.reads q.reads h in
      let at = entry_at q.entries (length p.records) h in
      none _ l.after at.0 l.some l.line at.1

  no_text : NoEntry []
  no_text cs ys e some l s = omega arith

  pub same_count : {text rest rest' : List ℕ} {es fs : List E} (p : Partly S text es rest) (q : Partly S text fs rest') → NoEntry rest → NoEntry rest' → length p.records ≡ length q.records
  same_count p q none nor = level (length p.records) (length q.records) (not_past p q none) (not_past q p nor)

  module _ (U : ℕ → List Cell → TextFault → Type 0) (one : SaysOne S U) where
    same_entries : {rs ss : List (List Cell)} {es fs : List E} → Entries S rs es → Entries S ss fs → rs ≡ ss → es ≡ fs
    same_entries entries.none entries.none e = refl
    same_entries entries.none (entries.more {rs = ss} ds d q s) e = absurd (omega (arith, ap length e, length_push ss ds))
    same_entries (entries.more {rs} cs c r s) entries.none e = absurd (omega (arith, ap length e, length_push rs cs))
    same_entries (entries.more {rs} cs c r s) (entries.more {rs = ss} ds d q s') e =
        let same = same_from_push rs ss cs ds e in
        let before = same_entries r q same.0 in
        let this : c ≡ d = one.entry cs c d s (subst (λ (l : List Cell). S l d) (sym same.1) s') in
        cc

    -- all the entries
    pub entered_unique : {text : List ℕ} {es fs : List E} → Entered S text es → Entered S text fs → es ≡ fs
    entered_unique p q = same_entries p.entries q.entries (same_read p.reads q.reads (same_count p q no_text no_text)).0

    broken_none : {rest : List ℕ} {f : ℕ} → Broken rest f → NoEntry rest
    broken_none b cs ys e some l s = line_not_broken cs l b

    said_none : {rest : List ℕ} {cs : List Cell} {ys : List ℕ} {rec : ℕ} {t : TextFault} → Line cs rest ys → U rec cs t → NoEntry rest
    said_none {cs = cs} {rec = rec} {t = t} l u ds zs e some k s = one.never rec cs e t (subst (λ (c : List Cell). S c e) (line_unique ds cs k l).0 s) u

    -- a text is not read whole where one record says nothing
    pub entered_not : {text : List ℕ} {es : List E} {rec : ℕ} {f : SurfaceFault} → Entered S text es → Stopped S U rec text f → ⊥
    entered_not p (entries.broken es rest f q some b) =
        let left = (same_read q.reads p.reads (same_count q p (broken_none b) no_text)).1 in omega (arith, ap length left)
    entered_not p (entries.said_none es rest cs ys t q some l u) =
        let left = (same_read q.reads p.reads (same_count q p (said_none l u) no_text)).1 in omega (arith, ap length left)

    pub stopped_unique : {text : List ℕ} {rec : ℕ} {f g : SurfaceFault} → Stopped S U rec text f → Stopped S U rec text g → f ≡ g
    stopped_unique {rec = rec} (entries.broken es rest f p some b) (entries.broken fs rest' g q some' b') =
        let many = same_count p q (broken_none b) (broken_none b') in
        let left = (same_read p.reads q.reads many).1 in
        let field : f ≡ g = broken_unique b (subst (λ (t : List ℕ). Broken t g) (sym left) b') in
        cc
    stopped_unique (entries.broken es rest f p some b) (entries.said_none fs rest' cs ys t q some' l u) =
        let left = (same_read p.reads q.reads (same_count p q (broken_none b) (said_none l u))).1 in
        absurd (line_not_broken cs l (subst (λ (x : List ℕ). Broken x f) left b))
    stopped_unique (entries.said_none fs rest' cs ys t q some' l u) (entries.broken es rest f p some b) =
        let left = (same_read p.reads q.reads (same_count p q (broken_none b) (said_none l u))).1 in
        absurd (line_not_broken cs l (subst (λ (x : List ℕ). Broken x f) left b))
    stopped_unique {rec = rec} (entries.said_none es rest cs ys t p some l u) (entries.said_none fs rest' ds zs v q some' k w) =
        let many = same_count p q (said_none l u) (said_none k w) in
        let left = (same_read p.reads q.reads many).1 in
        let fields = (line_unique ds cs (subst (λ (x : List ℕ). Line ds x zs) (sym left) k) l).0 in
        let w1 = subst (λ (n : ℕ). U (rec + n) ds v) (sym many) w in
        ap Text (one.fault (rec + length p.records) cs t v u (subst (λ (c : List Cell). U (rec + length p.records) c v) fields w1))
