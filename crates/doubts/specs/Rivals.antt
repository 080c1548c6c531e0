-- Rivals of a figure: wherever a figure can be asked for, arrangements of each kind are permitted, so the promise is not empty.
use Rattle.std.specs.Prelude.{◌≡◌, ℕ, ◌-◌, ◌*◌, ◌<◌, ◌≤◌, true, [], ◌∷◌, pos, Some, None, ◌≢◌}
use Rattle.algebra.specs.Frac.{Same, whole}
use Rattle.surface.specs.Shape.{Lawful}
use Rattle.card.specs.Bounds.{kerbs_fit}
use Rattle.statement.specs.Lanes.{Numbered}
use Rattle.statement.specs.Effects.{Setting, lane_width, Arrangement, Permitted, exact}
use Rattle.statement.specs.Permits.{stretch}

-- lane 1 at the left kerb, and each further lane right beside the one before
abbrev pub SideBySide : Setting → Arrangement → Type 0
SideBySide g x = (i : ℕ) → Numbered g.kerbs i → x.starts i ≡ (i - 1) * lane_width g

-- no tandem, and no segment that is loaded
pub record Idle (g : Setting) (x : Arrangement) : Type 0 where
  pub permitted : Permitted g x
  pub lanes : SideBySide g x
  pub no_tandem : (i : ℕ) → x.tandem i ≡ None
  pub no_load : (j k : ℕ) → (x.load j k).stretches ≡ []
  pub effect : Same (exact g x) (whole (pos 0))

-- lane 1 has a tandem, whose rear place is num / den and no whole number of mm
pub record Between (g : Setting) (x : Arrangement) (num den : ℕ) : Type 0 where
  pub permitted : Permitted g x
  pub lanes : SideBySide g x
  pub tandem : x.tandem 1 ≡ Some (record { num = num; den = den })
  pub not_whole : (c : ℕ) → num ≢ c * den

-- the first segment of the first slice is loaded on two stretches that are not empty, with a gap between them
pub record Gapped (g : Setting) (x : Arrangement) (m p q r s : ℕ) : Type 0 where
  pub permitted : Permitted g x
  pub lanes : SideBySide g x
  pub parts : (x.load 0 0).parts ≡ m
  pub loaded : (x.load 0 0).stretches ≡ stretch p q ∷ stretch r s ∷ []
  pub in_order : (p < q) × (q < r) × (r < s) × (s ≤ m)

-- of each kind there is one; a tandem between whole places asks for a last place of at least 1,201 mm
pub record Rivals (g : Setting) : Type 0 where
  pub idle : (x : Arrangement) × Idle g x
  pub between : 1201 ≤ g.surface.place (g.surface.stations - 1) → (x : Arrangement) × Between g x 1 2
  pub gapped : (x : Arrangement) × Gapped g x 3 0 1 2 3

abbrev pub RivalsExist : Type 0
RivalsExist = (g : Setting) → Lawful g.surface → kerbs_fit g.surface.slices g.kerbs ≡ true → Rivals g
