-- Where the surface's part of a script ends is determined.
use Rattle.std.proofs.Common.{◌≡◌, ℕ, zero, suc, ◌+◌, ◌<◌, List, [], ◌∷◌, length, get_or, drop, refl, ap, subst, ⊎_elim, arith}
use Rattle.std.specs.List.{AllByRecursion}
use Rattle.std.proofs.lemmas.List.{drop_all, length-drop}
use Rattle.std.proofs.lemmas.Bool.{cases_lt}
use Rattle.table.specs.Cells.{Cell, plain}
use Rattle.table.specs.Lines.{Line, Broken}
use Rattle.table.specs.Tables.{ReadUpTo}
use Rattle.table.proofs.Chains.{line_unique, line_not_broken}
use Rattle.script.specs.Parts.{LeadsOn, Stays, EndsAt}
use Rattle.script.specs.Parts as parts
use Rattle.verdict.proofs.Chains.{same_read}
use Rattle.script_verdict.proofs.Readings.{ahead, level, line_empty}

stays_at : (rs : List (List Cell)) (k : ℕ) → k < length rs → AllByRecursion (λ cs. LeadsOn cs → ⊥) rs → LeadsOn (get_or rs k []) → ⊥
stays_at [] k h a = absurd (omega arith)
stays_at (r ∷ rs) zero h a = a.0
stays_at (r ∷ rs) (suc k) h a = stays_at rs k (omega arith) a.1

-- none of the records after the first leads on
stays_past : (rs : List (List Cell)) (k : ℕ) → 0 < k → k < length rs → Stays rs → LeadsOn (get_or rs k []) → ⊥
stays_past [] k some h s = absurd (omega arith)
stays_past (r ∷ rs) zero some h s = absurd (omega arith)
stays_past (r ∷ rs) (suc k) some h s = stays_at rs k (omega arith) s

empty_stays : (cs : List Cell) → cs ≡ plain [] ∷ [] → LeadsOn cs → ⊥
empty_stays cs e leads =
    ⊎_elim (λ a. omega (arith, ap length a)) (λ a. omega (arith, ap length a)) (subst LeadsOn e leads)

-- no further record stands at `rest` that a reading of the part takes after so many
abbrev Over : ℕ → List ℕ → Type 0
Over n rest = (cs : List Cell) (ys : List ℕ) → 0 < length rest → Line cs rest ys → (0 < n → LeadsOn cs → ⊥) → ⊥

-- ---- the ways in which the part is over

over_led : {rest ys : List ℕ} {cs : List Cell} (n : ℕ) → 0 < n → Line cs rest ys → LeadsOn cs → Over n rest
over_led {cs = cs} n some l leads ds zs text k stays = stays some (subst LeadsOn (line_unique cs ds l k).0 leads)

-- no record leads on where no text is left
unled_empty : (cs : List Cell) (ys rest : List ℕ) → rest ≡ [] → Line cs rest ys → LeadsOn cs → ⊥
unled_empty cs ys rest e l leads = empty_stays cs (line_empty cs (subst (λ (x : List ℕ). Line cs x ys) e l)) leads

-- the part goes to the end of the script: no record is left, or the next one does not stand
record RunsOut (input : List ℕ) (rs : List (List Cell)) : Type 0 where
  rest : List ℕ
  reads : ReadUpTo rs input rest
  stays : Stays rs
  over : Over (length rs) rest
  unled : (cs : List Cell) (ys : List ℕ) → Line cs rest ys → LeadsOn cs → ⊥

out_last : {input : List ℕ} (rs : List (List Cell)) → ReadUpTo rs input [] → Stays rs → RunsOut input rs
out_last rs r s = record { rest = []; reads = r; stays = s; over = λ cs ys some l stays. omega arith; unled = λ cs ys l. unled_empty cs ys [] refl l }

out_broken : {input : List ℕ} (rs : List (List Cell)) (rest : List ℕ) (f : ℕ) → ReadUpTo rs input rest → Stays rs → Broken rest f → RunsOut input rs
out_broken rs rest f r s b = record { rest = rest; reads = r; stays = s; over = λ cs ys some l stays. line_not_broken cs l b; unled = λ cs ys l leads. line_not_broken cs l b }

-- ---- they are determined

not_past : {input : List ℕ} {rs ss : List (List Cell)} {ys zs : List ℕ} → ReadUpTo rs input ys → ReadUpTo ss input zs → Stays ss → Over (length rs) ys → length rs < length ss → ⊥
not_past {rs = rs} {ss = ss} r q stays over h =
    let l = ahead r q h in
    over _ l.after l.some l.line (λ some. stays_past ss (length rs) some h stays)

same_count : {input : List ℕ} {rs ss : List (List Cell)} {ys zs : List ℕ} → ReadUpTo rs input ys → ReadUpTo ss input zs → Stays rs → Stays ss → Over (length rs) ys → Over (length ss) zs → length rs ≡ length ss
same_count {rs = rs} {ss = ss} r q s t o v = level (length rs) (length ss) (not_past r q t o) (not_past q r s v)

-- a record that leads on stands inside the script
inside : (input : List ℕ) (end : ℕ) (cs : List Cell) (ys : List ℕ) → Line cs (drop end input) ys → LeadsOn cs → end < length input
inside input end cs ys l leads = ⊎_elim (λ less. less) (λ ge. absurd (unled_empty cs ys (drop end input) (drop_all end input ge) l leads)) (cases_lt end (length input))

same_out : {input : List ℕ} {rs ss : List (List Cell)} → RunsOut input rs → RunsOut input ss → length rs + 1 ≡ length ss + 1
same_out a b = ap (λ (n : ℕ). n + 1) (same_count a.reads b.reads a.stays b.stays a.over b.over)

-- a part that a record follows does not go to the end of the script
followed_not_out : {input : List ℕ} (end : ℕ) (rs ss : List (List Cell)) (cs : List Cell) (ys : List ℕ) → 0 < length rs → ReadUpTo rs input (drop end input) → Stays rs → Line cs (drop end input) ys → LeadsOn cs → RunsOut input ss → ⊥
followed_not_out end rs ss cs ys some q st l leads o =
    let many = same_count q o.reads st o.stays (over_led (length rs) some l leads) o.over in
    o.unled cs ys (subst (λ (x : List ℕ). Line cs x ys) (same_read q o.reads many).1 l) leads

pub ends_unique : {input : List ℕ} {end end' next next' : ℕ} → EndsAt input end next → EndsAt input end' next' → (end ≡ end') × (next ≡ next')
ends_unique {input} (parts.followed end r rs cs ys q st l leads) (parts.followed end' r' rs' ds zs q' st' k leads') =
    let many = same_count q q' st st' (over_led (length (r ∷ rs)) (omega arith) l leads) (over_led (length (r' ∷ rs')) (omega arith) k leads') in
    let left = ap length (same_read q q' many).1 in
    let low = inside input end cs ys l leads in
    let low' = inside input end' ds zs k leads' in
    (omega (arith, length-drop end input, length-drop end' input), ap (λ (n : ℕ). n + 1) many)
ends_unique (parts.followed end r rs cs ys q st l leads) (parts.last ss p sp) = absurd (followed_not_out end (r ∷ rs) ss cs ys (omega arith) q st l leads (out_last ss p sp))
ends_unique (parts.followed end r rs cs ys q st l leads) (parts.broken ss rest f p sp b) = absurd (followed_not_out end (r ∷ rs) ss cs ys (omega arith) q st l leads (out_broken ss rest f p sp b))
ends_unique (parts.last ss p sp) (parts.followed end r rs cs ys q st l leads) = absurd (followed_not_out end (r ∷ rs) ss cs ys (omega arith) q st l leads (out_last ss p sp))
ends_unique (parts.last rs q st) (parts.last ss p sp) = (refl, same_out (out_last rs q st) (out_last ss p sp))
ends_unique (parts.last rs q st) (parts.broken ss rest f p sp b) = (refl, same_out (out_last rs q st) (out_broken ss rest f p sp b))
ends_unique (parts.broken ss rest f p sp b) (parts.followed end r rs cs ys q st l leads) = absurd (followed_not_out end (r ∷ rs) ss cs ys (omega arith) q st l leads (out_broken ss rest f p sp b))
ends_unique (parts.broken rs rest f q st b) (parts.last ss p sp) = (refl, same_out (out_broken rs rest f q st b) (out_last ss p sp))
ends_unique (parts.broken rs rest f q st b) (parts.broken ss rest' g p sp d) = (refl, same_out (out_broken rs rest f q st b) (out_broken ss rest' g p sp d))
