use Rattle.std.proofs.Common.{◌≡◌, ℕ, ◌+◌, ◌<◌, ◌⊎◌, length, refl, inl, inr, ⊎_elim, arith}
use Rattle.std.proofs.lemmas.Result.{err_from_is_err_and}
use Rattle.script.specs.Calls as calls
use Rattle.script.proofs.Saying.{others_long, rated_amply, rated_lending, not_rated_kind, not_rated_number}
use Rattle.script.proofs.words.Rater.read.Goals as goal
use Rattle.script.proofs.words.Rater.read.Goals.{else-fields-ne2-via-then-fields-ne2+else-fields, else-fields-ne2-via-else-fields-ne2}

-- with two fields or six, something follows the word
some_after : (fields n : ℕ) → (fields ≡ 2) ⊎ (fields ≡ 6) → n + 1 ≡ fields → 0 < n
some_after fields n e h = ⊎_elim (λ two. omega arith) (λ six. omega arith) e

-- and after that nothing, or four
four_after : (fields n m : ℕ) → (fields ≡ 2) ⊎ (fields ≡ 6) → n + 1 ≡ fields → m + 1 ≡ n → (m ≡ 0) ⊎ (m ≡ 4)
four_after fields n m e h k = ⊎_elim (λ two. inl (omega arith)) (λ six. inr (omega arith)) e

four_left : (fields n m : ℕ) → (fields ≡ 2) ⊎ (fields ≡ 6) → (fields ≡ 2 → ⊥) → n + 1 ≡ fields → m + 1 ≡ n → m ≡ 4
four_left fields n m e not h k = ⊎_elim (λ two. absurd (not two)) (λ six. omega arith) e

pub returns-then-fields : goal.returns-then-fields
returns-then-fields c = λ ds ys l h. rw c.fault.ensures (calls.count ds (λ e. c.if-fields-ne2.true (omega arith)) (λ e. c.if-fields.true (omega arith)))

pub returns-in_err-word : goal.returns-in_err-word
returns-in_err-word c = λ ds ys l h.
    let e : (c.args.fields ≡ 2) ⊎ (c.args.fields ≡ 6) = elim c.else-fields-ne2.branch [ else-fields-ne2-via-then-fields-ne2+else-fields w ↦ inr w.if-fields.false | else-fields-ne2-via-else-fields-ne2 w ↦ inl w.if-fields-ne2.false ] in
    absurd (c.in_err-word.ensures.split ds ys (l (some_after c.args.fields (length ds) e h)))

pub returns-in_err-lengths : goal.returns-in_err-lengths
returns-in_err-lengths c = λ ds ys l h.
    let e : (c.args.fields ≡ 2) ⊎ (c.args.fields ≡ 6) = elim c.else-fields-ne2.branch [ else-fields-ne2-via-then-fields-ne2+else-fields w ↦ inr w.if-fields.false | else-fields-ne2-via-else-fields-ne2 w ↦ inl w.if-fields-ne2.false ] in
    let p = err_from_is_err_and c.from_residual-in_err-lengths.result c.from_residual-in_err-lengths.ensures.1 in
    let s = c.in_ok-word.ensures.split ds ys (l (some_after c.args.fields (length ds) e h)) in
    let n : length s.others ≡ 4 = four_left c.args.fields (length ds) (length s.others) e c.if-fields-eq2.false h (others_long s refl) in
    let told = rw c.in_ok-word.ensures.rest at c.in_err-lengths.ensures in
    rw (p.1, p.2) (not_rated_number s c.args.here.record c.in-Some.kind c.in_err-lengths.field-0.0 c.in-Some.ensures n (told s.others ys (s.line (omega arith)) n))

pub returns-then-fields-eq2 : goal.returns-then-fields-eq2
returns-then-fields-eq2 c = λ ds ys l h.
    let some : 0 < length ds = omega (arith, c.if-fields-eq2.true) in
    let s = c.in_ok-word.ensures.split ds ys (l some) in
    let none : length s.others ≡ 0 = omega (arith, c.if-fields-eq2.true, others_long s {n = length ds} refl) in
    rated_amply s c.args.self c.in-Some.kind c.call.result none c.in-Some.ensures c.call.ensures

pub returns : goal.returns
returns c = λ ds ys l h.
    let e : (c.args.fields ≡ 2) ⊎ (c.args.fields ≡ 6) = elim c.else-fields-ne2.branch [ else-fields-ne2-via-then-fields-ne2+else-fields w ↦ inr w.if-fields.false | else-fields-ne2-via-else-fields-ne2 w ↦ inl w.if-fields-ne2.false ] in
    let s = c.in_ok-word.ensures.split ds ys (l (some_after c.args.fields (length ds) e h)) in
    let n : length s.others ≡ 4 = four_left c.args.fields (length ds) (length s.others) e c.if-fields-eq2.false h (others_long s refl) in
    rated_lending s c.args.self c.in-Some.kind c.in_ok-lengths.lengths c.call-2.result c.in-Some.ensures (c.in_ok-lengths.ensures s.others ys (s.line (omega arith)) n) c.call-2.ensures

pub returns-in_default : goal.returns-in_default
returns-in_default c = λ ds ys l h.
    let e : (c.args.fields ≡ 2) ⊎ (c.args.fields ≡ 6) = elim c.else-fields-ne2.branch [ else-fields-ne2-via-then-fields-ne2+else-fields w ↦ inr w.if-fields.false | else-fields-ne2-via-else-fields-ne2 w ↦ inl w.if-fields-ne2.false ] in
    let s = c.in_ok-word.ensures.split ds ys (l (some_after c.args.fields (length ds) e h)) in
    rw c.fault-in_default.ensures (not_rated_kind s c.args.here.record (four_after c.args.fields (length ds) (length s.others) e h (others_long s refl)) c.in_default.ensures)
