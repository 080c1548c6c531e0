-- What follows the surface in a script: perhaps how it is turned, then the opening and the calls.
use Rattle.std.specs.Prelude.{◌≡◌, ℕ, ◌+◌, ◌<◌, List, [], ◌∷◌, length}
use Rattle.surface.specs.declared.fault.SurfaceFault.{SurfaceFault}
use Rattle.surface.specs.declared.fault.SurfaceFault.TheVariants.{Text}
use Rattle.table.specs.Cells.{Cell, content}
use Rattle.table.specs.Lines.{Line, Broken}
use Rattle.table.specs.Tables.{Passes}
use Rattle.table.specs.declared.fault.TextFault.{TextFault}
use Rattle.table.specs.declared.fault.TextFault.TheVariants.{Malformed}
use Rattle.model.specs.declared.lanes.Carriageway.{Carriageway}
use Rattle.card.specs.declared.calls.Call.{Call}
use Rattle.script.specs.Calls.{Opens, Unopened, Said, Unsaid}
use Rattle.script.specs.Entries.{Entered, Stopped}
use Rattle.script.specs.Lines.{Says}
use Rattle.script.specs.Turns.{unturned, TurnedBy, Misturned}
use Rattle.script.specs.Words.{turned_word}
use Rattle.script.specs.declared.turns.Turns.{Turns}

-- the text begins with the record cs, and `rest` begins with the next
pub record FirstRecord (text : List ℕ) (cs : List Cell) (rest : List ℕ) : Type 0 where
  pub some : 0 < length text
  pub after : List ℕ
  pub line : Line cs text after
  pub passes : Passes after rest

-- ---- turns

-- the record says `turned` and these turns
abbrev pub TurnsSaid : List Cell → Turns → Type 0
TurnsSaid [] t = ⊥
TurnsSaid (c ∷ ds) t = (content c ≡ turned_word) × TurnedBy ds t

-- the record of number rec, if it says turns, and what is left then, from the record of number next on
pub data TurnedFirst (text : List ℕ) (rec : ℕ) : Turns → List ℕ → ℕ → Type 0 where
  no_record : text ≡ [] → TurnedFirst text rec unturned text rec
  no_turns : (cs : List Cell) (ys : List ℕ) → Line cs text ys → (Says cs turned_word → ⊥) → TurnedFirst text rec unturned text rec
  turns : (cs : List Cell) (rest : List ℕ) (t : Turns) → FirstRecord text cs rest → TurnsSaid cs t → TurnedFirst text rec t rest (rec + 1)

pub data TurnedStops (rec : ℕ) (text : List ℕ) : TextFault → Type 0 where
  broken : (f : ℕ) → 0 < length text → Broken text f → TurnedStops rec text (Malformed rec f)
  turn : (c : Cell) (ds : List Cell) (ys : List ℕ) (e : TextFault) → Line (c ∷ ds) text ys → content c ≡ turned_word → Misturned rec ds e → TurnedStops rec text e

-- ---- opening

pub record OpenedNext (text : List ℕ) (number : ℕ) (kerbs : Carriageway) (rest : List ℕ) : Type 0 where
  pub cells : List Cell
  pub first : FirstRecord text cells rest
  pub opens : Opens cells number kerbs

pub data OpenStops (rec : ℕ) (text : List ℕ) : TextFault → Type 0 where
  missing : text ≡ [] → OpenStops rec text (Malformed rec 0)
  broken : (f : ℕ) → 0 < length text → Broken text f → OpenStops rec text (Malformed rec f)
  unopened : (cs : List Cell) (ys : List ℕ) (e : TextFault) → 0 < length text → Line cs text ys → Unopened rec cs e → OpenStops rec text e

-- ---- the whole, where the first record has the number rec

pub record TailSaid (text : List ℕ) (rec : ℕ) (t : Turns) (number : ℕ) (kerbs : Carriageway) (calls : List Call) : Type 0 where
  pub opening : List ℕ
  pub opening_record : ℕ
  pub rest : List ℕ
  pub turned : TurnedFirst text rec t opening opening_record
  pub opened : OpenedNext opening number kerbs rest
  pub said : Entered Said rest calls

-- the first record that is refused: as turns, as the opening that is missing or wrong, or as a call
pub data TailRefused (rec : ℕ) (text : List ℕ) : SurfaceFault → Type 0 where
  turns : (e : TextFault) → TurnedStops rec text e → TailRefused rec text (Text e)
  opening : (t : Turns) (rest : List ℕ) (next : ℕ) (e : TextFault) → TurnedFirst text rec t rest next → OpenStops next rest e → TailRefused rec text (Text e)
  call : (t : Turns) (open_text : List ℕ) (next number : ℕ) (kerbs : Carriageway) (rest : List ℕ) (e : SurfaceFault) → TurnedFirst text rec t open_text next → OpenedNext open_text number kerbs rest
      → Stopped Said Unsaid (next + 1) rest e → TailRefused rec text e
