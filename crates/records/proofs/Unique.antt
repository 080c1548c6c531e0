-- The numbers of a record are determined, and so is the first field that writes none, for a kind V of numbers where `W bs v` says that the bytes bs write v.
use Rattle.std.proofs.Common.{◌≡◌, ℕ, zero, suc, ◌<◌, List, [], ◌∷◌, length, get_or, take, refl, subst, ⊎_elim, arith}
use Rattle.std.proofs.lemmas.List.{get_or-take, length-take-le}
use Rattle.std.proofs.lemmas.Bool.{cases_lt}
use Rattle.table.specs.Cells.{Cell, plain, content}
use Rattle.table.specs.Numbers.{Writes, Counts}
use Rattle.table.proofs.Numerals.{writes_unique, counts_unique}
use Rattle.records.specs.Numbers.{Written, Unwritten}

-- bytes write at most one number
abbrev pub AtMostOne : {V : Type 0} → (List ℕ → V → Type 0) → Type 0
AtMostOne {V} W = (bs : List ℕ) (v w : V) → W bs v → W bs w → v ≡ w

pub whole_one : AtMostOne Writes
whole_one bs v w a b = writes_unique a b

pub natural_one : AtMostOne Counts
natural_one bs n m a b = counts_unique a b

pub written_unique : {V : Type 0} (W : List ℕ → V → Type 0) → AtMostOne W → (cs : List Cell) (vs us : List V) → Written W cs vs → Written W cs us → vs ≡ us
written_unique W one [] [] [] a b = refl
written_unique W one [] [] (u ∷ us) a b = absurd b
written_unique W one [] (v ∷ vs) us a b = absurd a
written_unique W one (c ∷ cs) [] us a b = absurd a
written_unique W one (c ∷ cs) (v ∷ vs) [] a b = absurd b
written_unique W one (c ∷ cs) (v ∷ vs) (u ∷ us) a b =
    let first : v ≡ u = one (content c) v u a.0 b.0 in
    let more = written_unique W one cs vs us a.1 b.1 in
    cc

module _ {V : Type 0} (W : List ℕ → V → Type 0) where
  written_at : (cs : List Cell) (vs : List V) → Written W cs vs → (i : ℕ) → i < length cs → (v : V) × W (content (get_or cs i (plain []))) v
  written_at [] vs w i h = absurd (omega arith)
  written_at (c ∷ cs) [] w i h = absurd w
  written_at (c ∷ cs) (v ∷ vs) w zero h = (v, w.0)
  written_at (c ∷ cs) (v ∷ vs) w (suc i) h = written_at cs vs w.1 i (omega arith)

  pub unwritten_not : (cs : List Cell) (vs : List V) (i : ℕ) → Written W cs vs → Unwritten W cs i → ⊥
  unwritten_not cs vs i w u = let at = written_at cs vs w i u.within in u.none at.0 at.1

  earlier : (cs : List Cell) (i j : ℕ) → Unwritten W cs i → Unwritten W cs j → i < j → ⊥
  earlier cs i j a b h =
      let long = length-take-le j cs (omega (arith, b.within)) in
      let at = written_at (take j cs) b.before b.numbers i (omega arith) in
      a.none at.0 (subst (λ (c : Cell). W (content c) at.0) (get_or-take j cs i (plain []) h) at.1)

  pub unwritten_unique : (cs : List Cell) (i j : ℕ) → Unwritten W cs i → Unwritten W cs j → i ≡ j
  unwritten_unique cs i j a b =
      ⊎_elim (λ less. absurd (earlier cs i j a b less)) (λ ge. ⊎_elim (λ more. absurd (earlier cs j i b a more)) (λ le. omega arith) (cases_lt j i)) (cases_lt i j)
