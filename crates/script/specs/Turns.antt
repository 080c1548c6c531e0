-- How a script turns its surface: words in the order sides, ends, opposite, each at most once.
use Rattle.std.specs.Prelude.{◌≡◌, ℕ, ◌+◌, ◌<◌, Bool, true, false, cond, not, ◌&&◌, List, [], ◌∷◌, ◌++◌, length, take, Some, None, Option, ◌≢◌, slice_index_or}
use Rattle.surface.specs.Shape.{Shape, side_for_side, end_for_end, opposite}
use Rattle.table.specs.Cells.{Cell, plain, content}
use Rattle.table.specs.declared.fault.TextFault.{TextFault}
use Rattle.table.specs.declared.fault.TextFault.TheVariants.{Malformed}
use Rattle.script.specs.declared.turns.Turns.{Turns}
use Rattle.script.specs.declared.words.Turn.{Turn}
use Rattle.script.specs.declared.words.Turn.TheVariants.{Sides, Ends, Opposite}
use Rattle.script.specs.Words.{turn_word}

abbrev pub unturned : Turns
unturned = record { sides = false; ends = false; opposite = false }

-- the turn may be named after these
abbrev pub follows : Turns → Turn → Bool
follows t Sides = not t.sides && (not t.ends && not t.opposite)
follows t Ends = not t.ends && not t.opposite
follows t Opposite = not t.opposite

abbrev pub turned_on : Turns → Turn → Turns
turned_on t Sides = record { sides = true; ends = t.ends; opposite = t.opposite }
turned_on t Ends = record { sides = t.sides; ends = true; opposite = t.opposite }
turned_on t Opposite = record { sides = t.sides; ends = t.ends; opposite = true }

-- the surface as it lies when it is turned so: side for side, then end for end, then negated
abbrev pub negated : Turns → Shape → Shape
negated t s = cond t.opposite (opposite s) s

abbrev pub ends_turned : Turns → Shape → Shape
ends_turned t s = negated t (cond t.ends (end_for_end s) s)

abbrev pub turned_shape : Turns → Shape → Shape
turned_shape t s = ends_turned t (cond t.sides (side_for_side s) s)

-- the word names a turn that may follow t, and makes these turns of them; or it names none
abbrev pub NextTurn : List ℕ → Turns → Option Turns → Type 0
NextTurn bs t (Some u) = (w : Turn) × ((bs ≡ turn_word w) × ((follows t w ≡ true) × (u ≡ turned_on t w)))
NextTurn bs t None = (w : Turn) → bs ≡ turn_word w → follows t w ≢ true

-- the words name these turns
pub data TurnedBy : List Cell → Turns → Type 0 where
  none : TurnedBy [] unturned
  more : {ds : List Cell} {t : Turns} (d : Cell) (w : Turn) → TurnedBy ds t → content d ≡ turn_word w → follows t w ≡ true → TurnedBy (ds ++ (d ∷ [])) (turned_on t w)

-- word i is the first that may not stand where it does
pub record Misturned (rec : ℕ) (ds : List Cell) (e : TextFault) : Type 0 where
  pub index : ℕ
  pub before : Turns
  pub named : TurnedBy (take index ds) before
  pub within : index < length ds
  pub none : (w : Turn) → content (slice_index_or ds index (plain [])) ≡ turn_word w → follows before w ≢ true
  pub place : e ≡ Malformed rec (2 + index)
