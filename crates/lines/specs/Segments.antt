-- One segment of a slice: where it is loaded, twice the signed area of a loading, and what the program counts for it.
use Rattle.std.specs.Prelude.{ℕ, zero, suc, ◌+◌, ◌-◌, ◌*◌, ◌<◌, ◌≤◌, List, [], ◌∷◌, ℤ, pos, negsuc, ◌+ℤ◌, ◌*ℤ◌}
use Rattle.std.proofs.Common.{mul-pos, arith}
use Rattle.algebra.specs.Frac.{Frac, whole, ceil}

-- a loaded stretch, in parts of the segment
pub record Stretch : Type 0 where
  pub from : ℕ
  pub to : ℕ

-- in order, not overlapping, none before a or past m
abbrev pub Apart : ℕ → ℕ → List Stretch → Type 0
Apart a m [] = a ≤ m
Apart a m (s ∷ l) = (a ≤ s.from) × (s.from ≤ s.to) × Apart s.to m l

-- a segment cut into equal parts, and loaded on stretches that begin and end at them
pub record Loading : Type 0 where
  pub parts : ℕ
  pub some : 0 < parts
  pub stretches : List Stretch
  pub apart : Apart 0 parts stretches

-- Below, v and u are the ordinates at the ends of a segment.

-- m times the ordinate at the x-th of m parts
abbrev pub height : ℤ → ℤ → ℕ → ℕ → ℤ
height v u m x = v *ℤ pos (m - x) +ℤ u *ℤ pos x

-- twice the signed area of the stretches, times m², over a segment of length 1
abbrev pub area : ℤ → ℤ → ℕ → List Stretch → ℤ
area v u m [] = pos 0
area v u m (s ∷ l) = pos (s.to - s.from) *ℤ (height v u m s.from +ℤ height v u m s.to) +ℤ area v u m l

-- twice the signed area of a loading, over a segment of length d
abbrev pub loaded_area : ℕ → ℤ → ℤ → Loading → Frac
loaded_area d v u l = record { num = pos d *ℤ area v u l.parts l.stretches; den = l.parts * l.parts; some = mul-pos l.some l.some }

-- the part of a segment where the ordinate is positive
abbrev pub positive_parts : ℤ → ℤ → ℕ
positive_parts (pos c) (pos e) = 1
positive_parts (pos c) (negsuc e) = c + suc e
positive_parts (negsuc e) (pos c) = suc e + c
positive_parts (negsuc c) (negsuc e) = 1

abbrev pub positive_stretches : ℤ → ℤ → List Stretch
positive_stretches (pos zero) (pos zero) = []
positive_stretches (pos zero) (pos (suc e)) = record { from = 0; to = 1 } ∷ []
positive_stretches (pos (suc c)) (pos e) = record { from = 0; to = 1 } ∷ []
positive_stretches (pos zero) (negsuc e) = []
positive_stretches (pos (suc c)) (negsuc e) = record { from = 0; to = suc c } ∷ []
positive_stretches (negsuc e) (pos zero) = []
positive_stretches (negsuc e) (pos (suc c)) = record { from = suc e; to = suc e + suc c } ∷ []
positive_stretches (negsuc c) (negsuc e) = []

pub positive_some : (v u : ℤ) → 0 < positive_parts v u
positive_some (pos c) (pos e) = omega arith
positive_some (pos c) (negsuc e) = omega arith
positive_some (negsuc c) (pos e) = omega arith
positive_some (negsuc c) (negsuc e) = omega arith

pub positive_apart : (v u : ℤ) → Apart 0 (positive_parts v u) (positive_stretches v u)
positive_apart (pos zero) (pos zero) = omega arith
positive_apart (pos zero) (pos (suc e)) = (omega arith, omega arith, omega arith)
positive_apart (pos (suc c)) (pos e) = (omega arith, omega arith, omega arith)
positive_apart (pos zero) (negsuc e) = omega arith
positive_apart (pos (suc c)) (negsuc e) = (omega arith, omega arith, omega arith)
positive_apart (negsuc e) (pos zero) = omega arith
positive_apart (negsuc e) (pos (suc c)) = (omega arith, omega arith, omega arith)
positive_apart (negsuc c) (negsuc e) = omega arith

-- loaded wherever the ordinate is positive, and nowhere else
abbrev pub where_positive : ℤ → ℤ → Loading
where_positive v u = record { parts = positive_parts v u; some = positive_some v u; stretches = positive_stretches v u; apart = positive_apart v u }

-- twice the greatest area, over a segment of length d
abbrev pub gain : ℕ → ℤ → ℤ → Frac
gain d (pos c) (pos e) = whole (pos (d * (c + e)))
gain d (pos c) (negsuc e) = record { num = pos (d * (c * c)); den = c + suc e; some = omega arith }
gain d (negsuc e) (pos c) = record { num = pos (d * (c * c)); den = suc e + c; some = omega arith }
gain d (negsuc c) (negsuc e) = whole (pos 0)

-- what the program counts for it: d(v + u) if neither ordinate is negative, 0 if neither is positive,
-- and else d times the square of the positive one over |v| + |u|, rounded up
abbrev pub rounded : ℕ → ℤ → ℤ → ℕ
rounded d (pos c) (pos e) = d * (c + e)
rounded d (pos c) (negsuc e) = ceil (d * (c * c)) (c + suc e)
rounded d (negsuc e) (pos c) = ceil (d * (c * c)) (suc e + c)
rounded d (negsuc c) (negsuc e) = 0

-- the sign changes inside the segment
abbrev pub sign_changes : ℤ → ℤ → ℕ
sign_changes (pos c) (pos e) = 0
sign_changes (pos zero) (negsuc e) = 0
sign_changes (pos (suc c)) (negsuc e) = 1
sign_changes (negsuc e) (pos zero) = 0
sign_changes (negsuc e) (pos (suc c)) = 1
sign_changes (negsuc c) (negsuc e) = 0
