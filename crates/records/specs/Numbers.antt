-- The numbers that the fields of a record write, of a kind V where `W bs v` says that the bytes bs write v.
use Rattle.std.specs.Prelude.{◌≡◌, ℕ, ◌+◌, ◌<◌, List, [], ◌∷◌, ◌++◌, length, take, drop, slice_index_or}
use Rattle.table.specs.Cells.{Cell, plain, content}
use Rattle.table.specs.declared.fault.TextFault.{TextFault}
use Rattle.table.specs.declared.fault.TextFault.TheVariants.{Malformed}

-- each field writes the number in its place
abbrev pub Written : {V : Type 0} → (List ℕ → V → Type 0) → List Cell → List V → Type 0
Written W [] [] = Unit {0}
Written W [] (v ∷ vs) = ⊥
Written W (c ∷ cs) [] = ⊥
Written W (c ∷ cs) (v ∷ vs) = W (content c) v × Written W cs vs

-- the fields before field i (from 0) write numbers, and field i writes none
pub record Unwritten {V : Type 0} (W : List ℕ → V → Type 0) (cs : List Cell) (i : ℕ) : Type 0 where
  pub before : List V
  pub numbers : Written W (take i cs) before
  pub within : i < length cs
  pub none : (v : V) → W (content (slice_index_or cs i (plain []))) v → ⊥

-- the fields write numbers, of which the first are held, as many as there is room for
pub record Taken {V : Type 0} (W : List ℕ → V → Type 0) (room : ℕ) (cs : List Cell) (into : List V) : Type 0 where
  pub numbers : List V
  pub written : Written W cs numbers
  pub held : into ≡ take room numbers

-- the fields write numbers, the first of which stand in a list that was `old`, as many as it has places; what stood past them stays
pub record FilledBy {V : Type 0} (W : List ℕ → V → Type 0) (cs : List Cell) (old into : List V) : Type 0 where
  pub numbers : List V
  pub written : Written W cs numbers
  pub filled : into ≡ take (length old) numbers ++ drop (length numbers) old

-- the first field that writes no number is told by its place, where the first of the fields has the place f of the record r
pub record Missed {V : Type 0} (W : List ℕ → V → Type 0) (cs : List Cell) (r f : ℕ) (e : TextFault) : Type 0 where
  pub index : ℕ
  pub unwritten : Unwritten W cs index
  pub place : e ≡ Malformed r (f + index)
