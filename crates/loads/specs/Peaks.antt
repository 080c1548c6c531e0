-- The places that are tried for a tandem, and the best place so far.
use Rattle.std.specs.Prelude.{◌≡◌, ℕ, ◌+◌, ◌*◌, ◌<◌, ◌≤◌, ◌⊎◌, min, pos, ◌*ℤ◌, ◌≤ℤ◌, Some, None, Option, unsigned_abs}
use Rattle.algebra.specs.Frac.{Frac, Same, whole, over, ◌+F◌}
use Rattle.lines.specs.Lines.{Line, last, axles, value_at, Ahead, Summit, Stands}
use Rattle.loads.specs.declared.others.Other.{Other}
use Rattle.loads.specs.declared.peaks.Peak.{Peak}

abbrev pub sum_of : Peak → Frac
sum_of p = over p.sum p.span

pub record Ranged (p : Peak) : Type 0 where
  pub some : 0 < p.span
  pub few : p.span ≤ 200000
  pub within : unsigned_abs p.sum ≤ 800000 * p.span

-- the value of station i with that at the place z
pub record Paired (d : Line) (i z : ℕ) (p : Peak) : Type 0 where
  pub ranged : Ranged p
  pub same : Same (sum_of p) (whole (d.value i) +F value_at d z 1)

-- both axles at the place of p
pub record At (d : Line) (p : Peak) : Type 0 where
  pub ranged : Ranged p
  pub fits : p.place + 1200 ≤ last d
  pub same : Same (sum_of p) (axles d p.place 1)

-- p is not behind q, by cross-multiplying
pub record Over (p q : Peak) : Type 0 where
  pub most : (q.sum *ℤ pos p.span) ≤ℤ (p.sum *ℤ pos q.span)
  pub first : (p.sum *ℤ pos q.span) ≤ℤ (q.sum *ℤ pos p.span) → p.place ≤ q.place

abbrev pub Good : Line → Option Peak → Type 0
Good d (Some p) = At d p
Good d None = Unit {0}

abbrev pub Leads : Line → Option Peak → ℕ → Type 0
Leads d (Some p) c = Ahead d p.place c
Leads d None c = ⊥

-- r is the one of p and q that is not behind the other
abbrev pub Better : Peak → Peak → Peak → Type 0
Better p q r = ((r ≡ q) × Over q p) ⊎ ((r ≡ p) × Over p q)

-- the places y and z are those of the axles of a tandem
abbrev pub AxlesAt : ℕ → ℕ → Type 0
AxlesAt y z = (z ≡ y + 1200) ⊎ (y ≡ z + 1200)

-- from `old` to `new`, after the tandem with its axles at y and at `other` was tried, if there is one
pub record Tried (d : Line) (old : Option Peak) (y : ℕ) (other : Option Other) (new : Option Peak) : Type 0 where
  pub good : Good d new
  pub keeps : (c : ℕ) → Leads d old c → Leads d new c
  pub leads : (o : Other) → other ≡ Some o → Leads d new (min y o.place)

abbrev pub Best : Line → Option Peak → Type 0
Best d (Some p) = At d p × Summit d p.place
Best d None = (a b : ℕ) → Stands d a b → ⊥
