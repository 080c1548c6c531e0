-- The first field of a record that was read before, and the others.
use Rattle.std.proofs.Common.{◌≡◌, ℕ, ◌+◌, ◌<◌, Bool, ◌⊎◌, List, [], ◌∷◌, length, drop, Ok, Err, Result, Decides, MatchResult, sym, ap, subst}
use Rattle.table.specs.Cells.{Cell, cell_of, content}
use Rattle.table.specs.Lines.{Line, FieldRead}
use Rattle.table.specs.declared.field.FieldEnd.{FieldEnd}
use Rattle.table.proofs.Chains.{line_some}
use Rattle.records.proofs.Progress.{first_read}
use Rattle.script.specs.Lines.{Split, Says}

pub split_first : (cs : List Cell) {input ys : List ℕ} {at r f rest : ℕ} {e : FieldEnd} → Line cs (drop at input) ys → FieldRead input at r f e → (e.next < length input → rest ≡ e.next + 1)
    → Split cs (cell_of e.field.text) (drop rest input) ys
split_first [] l k step = absurd (line_some l)
split_first (t ∷ us) {input} {ys} l k step =
    let p = first_read t us l k in
    record {
      others = us;
      splits = ap (λ (c : Cell). c ∷ us) (sym p.0);
      line = λ h. let q = p.1 h in subst (λ (n : ℕ). Line us (drop n input) ys) (sym (step q.0)) q.1;
    }

-- a word that is found in the first field is said by the record
pub split_says : {cs : List Cell} {c : Cell} {rest ys w : List ℕ} {r : Bool} → Split cs c rest ys → Decides r (content c ≡ w) → Decides r (Says cs w)
split_says {cs} {c} {rest} {ys} {w} {r} s d = subst (λ (l : List Cell). Decides r (Says l w)) (sym s.splits) d

-- and so is one of two
pub split_leads : {cs : List Cell} {c : Cell} {rest ys v w : List ℕ} {r : Bool} → Split cs c rest ys → Decides r (content c ≡ v ⊎ content c ≡ w) → Decides r (Says cs v ⊎ Says cs w)
split_leads {cs} {c} {rest} {ys} {v} {w} {r} s d = subst (λ (l : List Cell). Decides r (Says l v ⊎ Says l w)) (sym s.splits) d

-- what is said of an answer in two ways
pub both_ways : {X E Q : Type 0} {A B : X → Type 0} {C D : E → Type 0} (r : Result X E) → MatchResult r A C → MatchResult r B D → ((x : X) → A x → B x → Q) → ((e : E) → C e → D e → Q) → Q
both_ways (Ok x) a b f g = f x a b
both_ways (Err e) a b f g = g e a b
