-- Which fault, if any, an edge surface is refused for: its counts, its stations in order, its factors. None has a record or a field.
use Rattle.std.specs.Prelude.{ℕ, ◌-◌, cond, ◌||◌, List, length, ℤ, pos, Ok, Err, ◌==◌, int_lt, nat_lt, unsigned_abs}
use Rattle.surface.specs.Stations.{place_fits}
use Rattle.surface.specs.Verdict.{Verdict, and_then, each_judged}
use Rattle.surface.specs.declared.fault.SurfaceFault.TheVariants.{Counts, Place, Ordinate}
use Rattle.edge.specs.Edges.{place_at, ordinate_at}
use Rattle.edge.specs.declared.station.Station.{Station}

-- the place of the station before station k; 0 for the first
abbrev pub place_before : List Station → ℕ → ℤ
place_before ss k = cond (k == 0) (pos 0) (place_at ss (k - 1))

abbrev pub station_judged : List Station → ℕ → Verdict
station_judged ss k =
    cond (place_fits k (place_before ss k) (place_at ss k))
    (cond (nat_lt 50000 (unsigned_abs (ordinate_at ss k))) (Err (Ordinate 0 0)) (Ok tt))
    (Err (Place 0 0))

abbrev pub edge_judged : ℤ → ℤ → ℤ → List Station → Verdict
edge_judged n f g ss =
    cond (int_lt n (pos 60) || (int_lt (pos 300) n || (nat_lt (length ss) 2 || nat_lt 64 (length ss)))) (Err (Counts 0 0))
    (and_then (each_judged (station_judged ss) 0 (length ss))
    (cond (nat_lt 2000 (unsigned_abs f) || nat_lt 2000 (unsigned_abs g)) (Err (Ordinate 0 0)) (Ok tt)))
