-- The axles of a lane: the ordinates under the four wheels together are the line that its tandem stands on.
use Rattle.std.specs.Prelude.{ℕ, ◌+◌, List, [], ◌∷◌, ℤ, pos, ◌+ℤ◌}
use Rattle.surface.specs.Shape.{Shape}
use Rattle.model.specs.Lanes.{wheels}
use Rattle.model.specs.declared.tandems.Tandem.{Tandem}
use Rattle.lines.specs.Lines.{Line, IsTandem}

abbrev pub totalZ : (ℕ → ℤ) → List ℕ → ℤ
totalZ f [] = pos 0
totalZ f (x ∷ xs) = f x +ℤ totalZ f xs

-- at station k, under an axle in the lane of l slices that begins at slice a
abbrev pub wheel_sum : Shape → ℕ → ℕ → ℕ → ℤ
wheel_sum s a l k = totalZ (λ j. s.ordinate (a + j) k) (wheels l)

-- W, straight between stations
abbrev pub axle_line : Shape → ℕ → ℕ → Line
axle_line s a l = record { count = s.stations; place = s.place; value = wheel_sum s a l }

-- T of the lane of l slices that begins at slice a, with the place of its tandem
abbrev pub LaneTandem : Shape → ℕ → ℕ → Tandem → Type 0
LaneTandem s a l t = IsTandem (axle_line s a l) t.t t.place
