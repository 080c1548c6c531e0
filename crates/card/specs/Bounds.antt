-- The bounds on kerbs and factors.
use Rattle.std.specs.Prelude.{ℕ, ◌+◌, Bool, ◌&&◌, ◌||◌, nat_le, nat_lt}
use Rattle.model.specs.Lanes.{breadth}
use Rattle.model.specs.declared.lanes.Carriageway.{Carriageway}
use Rattle.model.specs.declared.weights.Factors.{Factors}

-- the carriageway is 3.0 to 15.0 m wide and lies on a deck of n slices
abbrev pub kerbs_fit : ℕ → Carriageway → Bool
kerbs_fit n k = nat_le 30 k.width && (nat_le k.width 150 && nat_le (k.first + breadth k) n)

abbrev pub in_range : ℕ → ℕ → ℕ → Bool
in_range lo hi x = nat_le lo x && nat_le x hi

-- the factors lie in their ranges, where a tandem in lane 1 may fall to t and the uniform loads of lanes from 2 up to u
unfoldable pub in_bounds : ℕ → ℕ → Factors → Bool
in_bounds t u f =
    in_range t 200 f.tandem1
    && (in_range 0 200 f.tandem2 && (in_range 0 200 f.tandem3
    && (in_range 40 200 f.uniform1 && (in_range u 200 f.uniform2 && (in_range u 200 f.uniform3
    && (in_range u 200 f.others && in_range 0 200 f.remaining))))))

-- some factor is below the bound that holds without a reduction
unfoldable pub some_reduced : Factors → Bool
some_reduced f = nat_lt f.tandem1 80 || (nat_lt f.uniform2 100 || (nat_lt f.uniform3 100 || nat_lt f.others 100))
