-- Every cause of refusal does occur, at the bound that is stated, and so does every call without one.
use Rattle.std.specs.Prelude.{◌≡◌, ℕ, ◌-◌, ◌<◌, cond, List, [], ◌∷◌, Some, None, Option, ◌==◌}
use Rattle.model.specs.declared.lanes.Carriageway.{Carriageway}
use Rattle.model.specs.declared.weights.Factors.{Factors}
use Rattle.model.specs.declared.weights.LoadKind.{LoadKind}
use Rattle.card.specs.Steps.{cause, opening, open_cause, card_after, hundred}
use Rattle.card.specs.Told.{by_job, job_told}
use Rattle.card.specs.declared.calls.Call.{Call}
use Rattle.card.specs.declared.calls.Call.TheVariants.{Kerbs as SetKerbs, Factors as SetFactors, Reduce, Posted, Withdraw, Figure, Drawing}
use Rattle.card.specs.declared.calls.Lengths.{Lengths}
use Rattle.card.specs.declared.entries.Card.{Card}
use Rattle.card.specs.declared.fault.JobFault.{JobFault}
use Rattle.card.specs.declared.fault.JobFault.TheVariants.{Kerbs, Factor, DutyOpen, NotOpen, Short}
use Rattle.decks.specs.Decks.{kerbs_of}

-- ---- cards

-- job 7 on a deck of 120 slices, 6.0 m between the kerbs, no duty open
abbrev pub fresh : Card
fresh = opening 7 120 (kerbs_of 0 60)

-- the same after so many duties, with this serial open
abbrev pub served : ℕ → ℕ → Card
served serial count = record { number = 7; slices = 120; kerbs = kerbs_of 0 60; factors = hundred; earlier = hundred; serial = serial; count = count }

-- ---- sets of factors

-- a set with factor number i, of 1 to 8, replaced
abbrev pub replaced : Factors → ℕ → ℕ → Factors
replaced f i v = record {
  tandem1 = cond (i == 1) v f.tandem1;
  tandem2 = cond (i == 2) v f.tandem2;
  tandem3 = cond (i == 3) v f.tandem3;
  uniform1 = cond (i == 4) v f.uniform1;
  uniform2 = cond (i == 5) v f.uniform2;
  uniform3 = cond (i == 6) v f.uniform3;
  others = cond (i == 7) v f.others;
  remaining = cond (i == 8) v f.remaining;
}

-- two factors reduced, so that one is left where the other is replaced
abbrev pub reduced : Factors
reduced = replaced (replaced hundred 5 50) 6 50

-- every factor at its ordinary bound: none is reduced
abbrev pub least : Factors
least = record { tandem1 = 80; tandem2 = 0; tandem3 = 0; uniform1 = 40; uniform2 = 100; uniform3 = 100; others = 100; remaining = 0 }

-- the bounds of factor number i: lo and 200 are taken, one less and one more are refused
pub record Ranges (call : Factors → Call) (set : Factors) (i lo : ℕ) : Type 0 where
  pub under : 0 < lo → cause fresh (call (replaced set i (lo - 1))) ≡ Some Factor
  pub lowest : cause fresh (call (replaced set i lo)) ≡ None
  pub highest : cause fresh (call (replaced set i 200)) ≡ None
  pub above : cause fresh (call (replaced set i 201)) ≡ Some Factor

pub record FactorRanges (call : Factors → Call) (set : Factors) (tandem uniform : ℕ) : Type 0 where
  pub tandem1 : Ranges call set 1 tandem
  pub tandem2 : Ranges call set 2 0
  pub tandem3 : Ranges call set 3 0
  pub uniform1 : Ranges call set 4 40
  pub uniform2 : Ranges call set 5 uniform
  pub uniform3 : Ranges call set 6 uniform
  pub others : Ranges call set 7 uniform
  pub remaining : Ranges call set 8 0

-- ---- open and kerbs: by the deck's slices, the first slice and the width
pub record KerbCauses (judged : ℕ → Carriageway → Option JobFault) : Type 0 where
  pub narrowest : judged 120 (kerbs_of 0 30) ≡ None
  pub narrower : judged 120 (kerbs_of 0 29) ≡ Some Kerbs
  pub widest : judged 300 (kerbs_of 0 150) ≡ None
  -- even if a deck had room for it
  pub wider : judged 302 (kerbs_of 0 151) ≡ Some Kerbs
  pub to_the_edge : judged 120 (kerbs_of 20 50) ≡ None
  pub past_the_edge : judged 120 (kerbs_of 21 50) ≡ Some Kerbs

-- ---- factors
pub record FactorsCauses : Type 0 where
  pub ranges : FactorRanges SetFactors hundred 80 100
  pub open_duty : cause (served 1 1) (SetFactors hundred) ≡ Some DutyOpen
  -- an open duty comes before a factor out of bounds
  pub open_first : cause (served 1 1) (SetFactors (replaced hundred 1 201)) ≡ Some DutyOpen

-- ---- reduce
pub record ReduceCauses : Type 0 where
  pub ranges : FactorRanges Reduce reduced 40 40
  pub none_reduced : cause fresh (Reduce hundred) ≡ Some Factor
  pub none_at_bounds : cause fresh (Reduce least) ≡ Some Factor
  -- one factor just below its ordinary bound is enough
  pub tandem1 : cause fresh (Reduce (replaced least 1 79)) ≡ None
  pub uniform2 : cause fresh (Reduce (replaced least 5 99)) ≡ None
  pub uniform3 : cause fresh (Reduce (replaced least 6 99)) ≡ None
  pub others : cause fresh (Reduce (replaced least 7 99)) ≡ None
  pub open_duty : cause (served 1 1) (Reduce reduced) ≡ Some DutyOpen
  pub open_first : cause (served 1 1) (Reduce (replaced reduced 1 39)) ≡ Some DutyOpen
  -- the last of 65,535 duties, and one too many
  pub last_duty : cause (served 0 65534) (Reduce reduced) ≡ None
  pub one_too_many : cause (served 0 65535) (Reduce reduced) ≡ Some DutyOpen
  pub too_many_first : cause (served 0 65535) (Reduce hundred) ≡ Some DutyOpen

-- ---- posted and withdraw, by number and serial
abbrev pub once : List Call
once = Reduce reduced ∷ []

abbrev pub twice : List Call
twice = Reduce reduced ∷ Withdraw 7 1 ∷ Reduce reduced ∷ []

pub record DutyCauses (call : ℕ → ℕ → Call) : Type 0 where
  pub the_open_one : cause (served 3 5) (call 7 3) ≡ None
  pub other_number : cause (served 3 5) (call 8 3) ≡ Some NotOpen
  pub other_serial : cause (served 3 5) (call 7 2) ≡ Some NotOpen
  pub none_open : cause (served 0 5) (call 7 5) ≡ Some NotOpen
  pub none_open_zero : cause (served 0 5) (call 7 0) ≡ Some NotOpen
  -- The first duty that job 7 gave out, shown to another job of that number: taken just where that job's open duty is its first.
  pub same_elsewhere : cause (card_after (opening 7 300 (kerbs_of 0 30)) once) (call 7 1) ≡ None
  pub later_elsewhere : cause (card_after (opening 7 300 (kerbs_of 0 30)) twice) (call 7 1) ≡ Some NotOpen
  pub none_elsewhere : cause (opening 7 300 (kerbs_of 0 30)) (call 7 1) ≡ Some NotOpen
  pub numbered_elsewhere : cause (card_after (opening 8 300 (kerbs_of 0 30)) once) (call 7 1) ≡ Some NotOpen

-- ---- figure and drawing: 120 slices ask for 24 · 121 = 2,904 bests
abbrev pub lengths : ℕ → ℕ → ℕ → ℕ → Lengths
lengths areas tandems bests owners = record { areas = areas; tandems = tandems; bests = bests; owners = owners }

pub record ListCauses (call : Lengths → Call) : Type 0 where
  pub enough : cause fresh (call (lengths 120 120 2904 120)) ≡ None
  pub few_areas : cause fresh (call (lengths 119 120 2904 120)) ≡ Some Short
  pub few_tandems : cause fresh (call (lengths 120 119 2904 120)) ≡ Some Short
  pub few_bests : cause fresh (call (lengths 120 120 2903 120)) ≡ Some Short
  pub few_owners : cause fresh (call (lengths 120 120 2904 119)) ≡ Some Short

pub record CausesStand : Type 0 where
  pub opens : KerbCauses open_cause
  pub kerbs : KerbCauses (λ slices k. cause (opening 7 slices (kerbs_of 0 30)) (SetKerbs k))
  pub factors : FactorsCauses
  pub reduces : ReduceCauses
  pub posts : DutyCauses (λ number serial. Posted number serial)
  pub withdraws : DutyCauses (λ number serial. Withdraw number serial)
  pub figures : (kind : LoadKind) → ListCauses (λ l. Figure kind l)
  pub drawings : (kind : LoadKind) → ListCauses (λ l. Drawing kind l)
  -- their numbers, with neither record nor field
  pub five : job_told Kerbs ≡ by_job 5
  pub six : job_told Factor ≡ by_job 6
  pub seven : job_told DutyOpen ≡ by_job 7
  pub eight : job_told NotOpen ≡ by_job 8
  pub nine : job_told Short ≡ by_job 9
