-- The surface of one line of stations, shared out between two edges, and why it is lawful.
use Rattle.std.specs.Prelude.{◌≡◌, ℕ, ◌+◌, ◌-◌, ◌*◌, ◌<◌, ◌≤◌, true, List, [], ◌∷◌, length, ℤ, pos, ◌+ℤ◌, ◌*ℤ◌, slice_index_or, unsigned_abs}
use Rattle.std.proofs.Common.{arith}
use Rattle.std.specs.Int.Signed.{non_neg}
use Rattle.std.specs.Int.{int_div_euclid}
use Rattle.surface.specs.Shape.{Shape, Lawful}
use Rattle.surface.proofs.Quotients.{quotient_within, mix_within, product_within}
use Rattle.edge.specs.declared.station.Station.{Station}

abbrev pub no_station : Station
no_station = record { place = pos 0; ordinate = pos 0 }

abbrev pub place_at : List Station → ℕ → ℤ
place_at ss k = (slice_index_or ss k no_station).place

abbrev pub ordinate_at : List Station → ℕ → ℤ
ordinate_at ss k = (slice_index_or ss k no_station).ordinate

-- at slice j of n, where the line has v and the edges have the factors f and g in thousandths, rounded towards minus infinity
abbrev pub edge_mix : ℤ → ℤ → ℤ → ℕ → ℕ → ℤ
edge_mix v f g n j = int_div_euclid (v *ℤ (f *ℤ pos (2 * n - 2 * j - 1) +ℤ g *ℤ pos (2 * j + 1))) (pos (2000 * n))

abbrev pub edge_shape : ℕ → ℤ → ℤ → List Station → Shape
edge_shape n f g ss = record {
  slices = n;
  stations = length ss;
  place = λ k. unsigned_abs (place_at ss k);
  ordinate = λ j k. edge_mix (ordinate_at ss k) f g n j;
}

-- two stations 1 mm apart, with the ordinate 0
abbrev pub level_line : List Station
level_line = record { place = pos 0; ordinate = pos 0 } ∷ record { place = pos 1; ordinate = pos 0 } ∷ []

-- n slices, and a line whose places begin at 0, rise and stay below 200,000
abbrev pub Lined : ℕ → List Station → Type 0
Lined n ss =
    ((60 ≤ n) × (n ≤ 300) × (2 ≤ length ss) × (length ss ≤ 64) × (unsigned_abs (place_at ss 0) ≡ 0))
    × ((k : ℕ) → k + 1 < length ss → unsigned_abs (place_at ss k) < unsigned_abs (place_at ss (k + 1)))
    × ((k : ℕ) → k < length ss → unsigned_abs (place_at ss k) < 200000)

-- no place is negative
abbrev pub Natural : List Station → Type 0
Natural ss = (k : ℕ) → k < length ss → non_neg (place_at ss k) ≡ true

-- factors within 2,000 thousandths, and ordinates within 50,000
abbrev pub Leaning : ℤ → ℤ → List Station → Type 0
Leaning f g ss = (unsigned_abs f ≤ 2000) × (unsigned_abs g ≤ 2000) × ((k : ℕ) → k < length ss → unsigned_abs (ordinate_at ss k) ≤ 50000)

pub shares_within : (f g : ℤ) (n j : ℕ) → j < n → unsigned_abs f ≤ 2000 → unsigned_abs g ≤ 2000 → unsigned_abs (f *ℤ pos (2 * n - 2 * j - 1) +ℤ g *ℤ pos (2 * j + 1)) ≤ 2 * (2000 * n)
shares_within f g n j h hf hg =
    let m = mix_within f g (2 * n - 2 * j - 1) (2 * j + 1) 2000 hf hg in
    omega arith

pub scaled_within : (v w : ℤ) (d : ℕ) → unsigned_abs v ≤ 50000 → unsigned_abs w ≤ 2 * d → unsigned_abs (v *ℤ w) ≤ 100000 * d
scaled_within v w d hv hw = let p = product_within v w 50000 (2 * d) hv hw in omega arith

pub edge_mix_within : (v f g : ℤ) (n j : ℕ) → j < n → unsigned_abs v ≤ 50000 → unsigned_abs f ≤ 2000 → unsigned_abs g ≤ 2000 → unsigned_abs (edge_mix v f g n j) ≤ 100000
edge_mix_within v f g n j h hv hf hg = quotient_within _ (2000 * n) 100000 (omega arith) (scaled_within v _ (2000 * n) hv (shares_within f g n j h hf hg))

pub edge_lawful : (n : ℕ) (f g : ℤ) (ss : List Station) → Lined n ss → Leaning f g ss → Lawful (edge_shape n f g ss)
edge_lawful n f g ss l a = record {
  wide = l.0.0;
  narrow = l.0.1;
  some = l.0.2;
  few = l.0.3;
  begins = l.0.4;
  rises = l.1;
  ends = l.2;
  within = λ j k h i. edge_mix_within (ordinate_at ss k) f g n j h (a.2 k i) a.0 a.1;
}
