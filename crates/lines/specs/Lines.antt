-- A line that runs straight between stations, and the sum of its values at two places 1,200 apart.
use Rattle.std.specs.Prelude.{◌≡◌, ℕ, zero, suc, ◌+◌, ◌-◌, ◌*◌, ◌<◌, ◌≤◌, cond, ◌⊎◌, ℤ, pos, ◌+ℤ◌, ◌*ℤ◌, Some, None, Option, nat_le}
use Rattle.algebra.specs.Frac.{Frac, ◌≤F◌, whole, over, ◌+F◌, ◌·F◌}

pub record Station : Type 0 where
  pub place : ℕ
  pub value : ℤ

-- the value at the place a / b between two stations
abbrev pub between : Station → Station → ℕ → ℕ → Frac
between s t a b = over (s.value *ℤ pos (t.place * b - a) +ℤ t.value *ℤ pos (a - s.place * b)) (b * (t.place - s.place))

pub record Line : Type 0 where
  pub count : ℕ
  pub place : ℕ → ℕ
  pub value : ℕ → ℤ

pub record Rising (d : Line) : Type 0 where
  pub some : 2 ≤ d.count
  pub begins : d.place 0 ≡ 0
  pub rises : (k : ℕ) → k + 1 < d.count → d.place k < d.place (k + 1)

abbrev pub last : Line → ℕ
last d = d.place (d.count - 1)

abbrev pub station : Line → ℕ → Station
station d k = record { place = d.place k; value = d.value k }

-- the value at the place a / b, by segment i
abbrev pub on : Line → ℕ → ℕ → ℕ → Frac
on d i a b = between (station d i) (station d (i + 1)) a b

-- the last of the segments 0 .. k that begins at or before a / b
abbrev pub under : Line → ℕ → ℕ → ℕ → ℕ
under d a b zero = 0
under d a b (suc k) = cond (nat_le (d.place (suc k) * b) a) (suc k) (under d a b k)

-- the value at the place a / b
abbrev pub value_at : Line → ℕ → ℕ → Frac
value_at d a b = on d (under d a b (d.count - 2)) a b

-- both axles, the rear one at a / b
abbrev pub axles : Line → ℕ → ℕ → Frac
axles d a b = value_at d a b +F value_at d (a + 1200 * b) b

-- a tandem whose rear axle is at a / b stands on the deck
pub record Stands (d : Line) (a b : ℕ) : Type 0 where
  pub some : 0 < b
  pub fits : a + 1200 * b ≤ last d * b

-- the whole place c attains the greatest sum, which is positive, and no smaller place does
pub record Greatest (d : Line) (c : ℕ) : Type 0 where
  pub fits : c + 1200 ≤ last d
  pub most : (a b : ℕ) → Stands d a b → axles d a b ≤F axles d c 1
  pub first : (a b : ℕ) → Stands d a b → a < c * b → axles d c 1 ≤F axles d a b → ⊥
  pub positive : axles d c 1 ≤F whole (pos 0) → ⊥

abbrev pub Placed : Line → Option ℕ → Type 0
Placed d (Some c) = Greatest d c
Placed d None = (a b : ℕ) → Stands d a b → axles d a b ≤F whole (pos 0)

-- t is T, and p the place of its tandem
pub record IsTandem (d : Line) (t : ℕ) (p : Option ℕ) : Type 0 where
  pub place : Placed d p
  pub bound : (a b : ℕ) → Stands d a b → 10000 ·F axles d a b ≤F whole (pos t)
  pub least : (k : ℕ) → ((a b : ℕ) → Stands d a b → 10000 ·F axles d a b ≤F whole (pos k)) → t ≤ k

-- ---- whole places that are tried: an axle at a station
-- the place c is ahead of the place e: its sum is greater, or it is the same and c is not after e
pub record Ahead (d : Line) (c e : ℕ) : Type 0 where
  pub most : axles d e 1 ≤F axles d c 1
  pub first : axles d c 1 ≤F axles d e 1 → c ≤ e

-- a whole place where the tandem fits and has an axle at a station
pub record Candidate (d : Line) (c : ℕ) : Type 0 where
  pub axle : (j : ℕ) × (j < d.count) × ((c ≡ d.place j) ⊎ (c + 1200 ≡ d.place j))
  pub fits : c + 1200 ≤ last d

-- the place c, ahead of every candidate
pub record Summit (d : Line) (c : ℕ) : Type 0 where
  pub fits : c + 1200 ≤ last d
  pub ahead : (e : ℕ) → Candidate d e → Ahead d c e

-- segment i holds the place a / b
pub record Holds (d : Line) (i a b : ℕ) : Type 0 where
  pub inside : i + 1 < d.count
  pub above : d.place i * b ≤ a
  pub below : a ≤ d.place (i + 1) * b

-- the same stations
pub record Agree (d e : Line) : Type 0 where
  pub count : d.count ≡ e.count
  pub place : (k : ℕ) → k < d.count → d.place k ≡ e.place k
  pub value : (k : ℕ) → k < d.count → d.value k ≡ e.value k

-- the line end for end
abbrev pub reversed : Line → Line
reversed d = record { count = d.count; place = λ k. last d - d.place (d.count - 1 - k); value = λ k. d.value (d.count - 1 - k) }
