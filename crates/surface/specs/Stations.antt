-- Where a station may stand.
use Rattle.std.specs.Prelude.{ℕ, Bool, cond, ◌&&◌, ℤ, pos, ◌==◌, int_le, int_lt, unsigned_abs}

-- station k, after one at place b, may stand at place z: the first at 0, each other past the one before, all below 200,000 mm
abbrev pub place_fits : ℕ → ℤ → ℤ → Bool
place_fits k b z = int_le (pos 0) z && (int_lt z (pos 200000) && cond (k == 0) (unsigned_abs z == 0) (int_lt b z))
