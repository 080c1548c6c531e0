-- What holds of every job that is opened, and of every list of calls that it then gets.
use Rattle.std.specs.Prelude.{◌≡◌, ℕ, ◌+◌, ◌<◌, cond, List, [], ◌∷◌, length, take, drop, Some, None, Ok, Err, Option, Result, nat_le}
use Rattle.std.specs.List.{slice_get}
use Rattle.surface.specs.Shape.{Shape, Lawful, side_for_side, end_for_end}
use Rattle.model.specs.Lanes.{breadth, mirror}
use Rattle.model.specs.declared.lanes.Carriageway.{Carriageway}
use Rattle.model.specs.declared.weights.LoadKind.{LoadKind}
use Rattle.placing.specs.Kind.{Kind}
use Rattle.worths.specs.Kinds.{effect_kind, kerbed_kind, kerbed}
use Rattle.card.specs.Bounds.{kerbs_fit}
use Rattle.card.specs.Steps.{cause, step, opening, open_cause, card_after, duty_open, unless}
use Rattle.card.specs.declared.entries.Card.{Card}
use Rattle.card.specs.declared.answers.Answer.{Answer}
use Rattle.card.specs.declared.answers.Answer.TheVariants.{Refused, Done, Handed, Rated}
use Rattle.card.specs.declared.answers.Layout.{Layout}
use Rattle.card.specs.declared.answers.Rating.{Rating}
use Rattle.card.specs.declared.calls.Call.{Call}
use Rattle.card.specs.declared.calls.Call.TheVariants.{Kerbs as SetKerbs, Factors as SetFactors, Reduce, Posted, Withdraw, Figure, Drawing}
use Rattle.card.specs.declared.fault.JobFault.{JobFault}
use Rattle.card.specs.declared.fault.JobFault.TheVariants.{Short}
use Rattle.statement.specs.Effects.{Setting}
use Rattle.statement.specs.Figures.{tandem_in, Figured}

-- ---- one call

abbrev pub refusal_in : Answer → Option JobFault
refusal_in (Refused e) = Some e
refusal_in Done = None
refusal_in (Handed _ _) = None
refusal_in (Rated _ _) = None

abbrev pub figure_in : Answer → Option ℕ
figure_in (Refused _) = None
figure_in Done = None
figure_in (Handed _ _) = None
figure_in (Rated r _) = Some r.figure

-- what the card puts in force over a surface
abbrev pub in_force : Shape → Card → LoadKind → Setting
in_force s c kind = record { surface = s; kerbs = c.kerbs; factors = c.factors; kind = kind }

-- a figure or a drawing that is taken: the figure, whether a duty is open, and the winner
pub record Taken {W : Type 0} (K : Kind W) (made : ℕ → ℕ → W) (s : Shape) (c : Card) (kind : LoadKind) (a : Answer) : Type 0 where
  pub rating : Rating
  pub layout : Layout
  pub answer : a ≡ Rated rating layout
  pub duty : rating.duty ≡ duty_open c
  pub figured : Figured K made (in_force s c kind) rating.figure (tandem_in layout.tandems) (take (breadth c.kerbs) layout.owners)

-- What a call answers that has no cause of refusal. Figure compares by the rounded effect alone, drawing by the pair with the kerb count.
abbrev pub Answered : Shape → Card → Call → Answer → Type 0
Answered s c (SetKerbs _) a = a ≡ Done
Answered s c (SetFactors _) a = a ≡ Done
Answered s c (Reduce _) a = a ≡ Handed c.number (c.count + 1)
Answered s c (Posted _ _) a = a ≡ Done
Answered s c (Withdraw _ _) a = a ≡ Done
Answered s c (Figure kind _) a = Taken effect_kind (λ e k. e) s c kind a
Answered s c (Drawing kind _) a = Taken kerbed_kind kerbed s c kind a

-- one call under the card c: refused exactly for its cause
pub record Told (s : Shape) (c : Card) (call : Call) (a : Answer) : Type 0 where
  pub judged : refusal_in a ≡ cause c call
  pub taken : cause c call ≡ None → Answered s c call a

-- ---- a run

-- A job of this number that is opened over the surface, and each of its calls under the card that those before it leave.
pub record Met (s : Shape) (number : ℕ) (kerbs : Carriageway) (calls : List Call) (answers : List Answer) : Type 0 where
  pub opened : open_cause s.slices kerbs ≡ None
  pub each : (i : ℕ) (call : Call) → slice_get calls i ≡ Some call → (a : Answer) × (slice_get answers i ≡ Some a) × Told s (card_after (opening number s.slices kerbs) (take i calls)) call a

-- the same call over the surface turned side for side: kerbs that are taken are mirrored
abbrev pub mirrored_call : Card → Call → Call
mirrored_call c (SetKerbs k) = SetKerbs (cond (kerbs_fit c.slices k) (mirror c.slices k) k)
mirrored_call c (SetFactors f) = SetFactors f
mirrored_call c (Reduce f) = Reduce f
mirrored_call c (Posted n m) = Posted n m
mirrored_call c (Withdraw n m) = Withdraw n m
mirrored_call c (Figure k l) = Figure k l
mirrored_call c (Drawing k l) = Drawing k l

abbrev pub mirrored : Card → List Call → List Call
mirrored c [] = []
mirrored c (k ∷ ks) = mirrored_call c k ∷ mirrored (step c k) ks

-- two jobs refuse alike and report the same figure
pub record Alike (a b : Answer) : Type 0 where
  pub refusals : refusal_in a ≡ refusal_in b
  pub figures : figure_in a ≡ figure_in b

abbrev pub AllAlike : ℕ → List Answer → List Answer → Type 0
AllAlike n xs ys = (i : ℕ) (a b : Answer) → i < n → slice_get xs i ≡ Some a → slice_get ys i ≡ Some b → Alike a b

-- the promise: over the surface, and over the surface turned side for side or end for end
pub record Whole (s : Shape) (number : ℕ) (kerbs : Carriageway) (calls : List Call) (answers : List Answer) : Type 0 where
  pub met : Met s number kerbs calls answers
  pub sides : (others : List Answer) → Met (side_for_side s) number (mirror s.slices kerbs) (mirrored (opening number s.slices kerbs) calls) others → AllAlike (length calls) answers others
  pub ends : (others : List Answer) → Met (end_for_end s) number kerbs calls others → AllAlike (length calls) answers others

-- whatever meets the relation over a lawful surface keeps the whole promise
abbrev pub MetServes : Type 0
MetServes = (s : Shape) → Lawful s → (number : ℕ) (kerbs : Carriageway) (calls : List Call) (answers : List Answer) → Met s number kerbs calls answers → Whole s number kerbs calls answers

-- ---- the public call that opens a job, makes every call of a list, and hands out the duty that is still open

-- a duty by its job number and serial
pub record Duty : Type 0 where
  pub number : ℕ
  pub serial : ℕ

-- the duty that the card holds open
abbrev pub duty_of : Card → Option Duty
duty_of c = cond (duty_open c) (Some (record { number = c.number; serial = c.serial })) None

-- a duty that was handed out, told by its number and serial
abbrev pub duty_told : {D : Type 0} → (D → ℕ) → (D → ℕ) → Option D → Option Duty
duty_told number serial None = None
duty_told number serial (Some d) = Some (record { number = number d; serial = serial d })

abbrev pub fault_in : {X : Type 0} → Result X JobFault → Option JobFault
fault_in (Ok _) = None
fault_in (Err e) = Some e

-- why it makes no call at all: too few answers are lent, or open is refused
abbrev pub unmade : Shape → Carriageway → List Call → List Answer → Option JobFault
unmade s kerbs calls answers = unless (nat_le (length calls) (length answers)) Short (open_cause s.slices kerbs)

pub record Replayed {D : Type 0} (number_in serial_in : D → ℕ) (s : Shape) (number : ℕ) (kerbs : Carriageway) (calls : List Call) (before after : List Answer) (r : Result (Option D) JobFault) : Type 0 where
  pub judged : fault_in r ≡ unmade s kerbs calls before
  pub refused : (e : JobFault) → r ≡ Err e → after ≡ before
  pub left : (d : Option D) → r ≡ Ok d → duty_told number_in serial_in d ≡ duty_of (card_after (opening number s.slices kerbs) calls)
  pub beyond : drop (length calls) after ≡ drop (length calls) before
  pub whole : (d : Option D) → r ≡ Ok d → Whole s number kerbs calls after
