-- What a run of calls prints, and which duty it leaves.
use Rattle.std.specs.Prelude.{◌≡◌, ℕ, cond, List, ◌++◌, Some, None, Ok, Err, Option, Result}
use Rattle.surface.specs.Shape.{Shape}
use Rattle.model.specs.declared.lanes.Carriageway.{Carriageway}
use Rattle.card.specs.Bounds.{kerbs_fit}
use Rattle.card.specs.Steps.{opening, open_cause, card_after}
use Rattle.card.specs.Told.{job_told}
use Rattle.card.specs.declared.answers.Answer.{Answer}
use Rattle.card.specs.declared.calls.Call.{Call}
use Rattle.card.specs.declared.fault.JobFault.{JobFault}
use Rattle.statement.specs.Runs.{Duty, Whole, duty_of}
use Rattle.report.specs.Lines.{ToldLines}
use Rattle.report.specs.Texts.{opened_text}
use Rattle.table.specs.Told.{refusal_text}

-- the bytes of a text that was made
abbrev pub bytes_in : {X Y : Type 0} → (X → List ℕ) → Result X Y → Option (List ℕ)
bytes_in bytes (Ok x) = Some (bytes x)
bytes_in bytes (Err _) = None

-- the lines of the answers, after the word that the job was opened
pub record OpenedLines (calls : List Call) (answers : List Answer) (text : List ℕ) : Type 0 where
  pub lines : List ℕ
  pub told : ToldLines calls answers lines
  pub written : text ≡ opened_text ++ lines

-- the refusal of open; or that it was opened, and a line for each call, whose answers keep the whole promise
pub data RunText (s : Shape) (number : ℕ) (kerbs : Carriageway) (calls : List Call) (text : List ℕ) : Type 0 where
  not_opened : (f : JobFault) → open_cause s.slices kerbs ≡ Some f → text ≡ refusal_text (job_told f) → RunText s number kerbs calls text
  opened : (answers : List Answer) → Whole s number kerbs calls answers → OpenedLines calls answers text → RunText s number kerbs calls text

-- the duty that is open after the calls; none where open is refused
abbrev pub duty_left : Shape → ℕ → Carriageway → List Call → Option Duty
duty_left s number kerbs calls = cond (kerbs_fit s.slices kerbs) (duty_of (card_after (opening number s.slices kerbs) calls)) None

-- what a run leaves; where memory lacks, there is no text, and the duty all the same if the calls were made
pub data RanSo (s : Shape) (number : ℕ) (kerbs : Carriageway) (calls : List Call) : Option (List ℕ) → Option Duty → Type 0 where
  no_room : RanSo s number kerbs calls None None
  unwritten : (d : Option Duty) → d ≡ duty_left s number kerbs calls → RanSo s number kerbs calls None d
  ran : (text : List ℕ) (d : Option Duty) → RunText s number kerbs calls text → d ≡ duty_left s number kerbs calls → RanSo s number kerbs calls (Some text) d
