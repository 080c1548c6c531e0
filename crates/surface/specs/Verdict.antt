-- A verdict: what is judged passes, or the first fault in the order of checks.
use Rattle.std.specs.Prelude.{◌≡◌, ℕ, zero, suc, ◌+◌, Ok, Err, Result}
use Rattle.surface.specs.declared.fault.SurfaceFault.{SurfaceFault}

abbrev pub Verdict : Type 0
Verdict = Result (Unit {0}) SurfaceFault

-- the first fault of two
abbrev pub and_then : Verdict → Verdict → Verdict
and_then (Ok _) v = v
and_then (Err f) v = Err f

-- the first fault of t items from item k on
abbrev pub each_judged : (ℕ → Verdict) → ℕ → ℕ → Verdict
each_judged f k zero = Ok tt
each_judged f k (suc t) = and_then (f k) (each_judged f (k + 1) t)

-- by the verdict, a value of which P holds, or the fault
abbrev pub Granted : {X : Type 0} → Verdict → Result X SurfaceFault → (X → Type 0) → Type 0
Granted v (Ok x) P = (v ≡ Ok tt) × P x
Granted v (Err f) P = v ≡ Err f

-- by the verdict: `made` holds and nothing is refused, or what was handed in comes back with the fault and `kept` holds
abbrev pub Settled : {D : Type 0} → Verdict → D → Result (Unit {0}) (D × SurfaceFault) → Type 0 → Type 0 → Type 0
Settled (Ok _) d r made kept = (r ≡ Ok tt) × made
Settled (Err f) d r made kept = (r ≡ Err (d, f)) × kept

-- by the verdict: `made` holds, or the fault is answered and `kept` holds
abbrev pub Answered : Verdict → Result (Unit {0}) SurfaceFault → Type 0 → Type 0 → Type 0
Answered (Ok _) r made kept = (r ≡ Ok tt) × made
Answered (Err f) r made kept = (r ≡ Err f) × kept
