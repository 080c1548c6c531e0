-- The rounded effect, the exact effect of what is handed back and the allowance, on two small decks.
use Rattle.std.proofs.Common.{◌≡◌, ℕ, zero, suc, ◌+◌, ◌*◌, ◌<◌, ◌≤◌, Bool, true, false, cond, eqb, ◌⊎◌, pos, negsuc, nat_abs, Some, sym, refl, subst, ⊎_elim, arith}
use Rattle.std.proofs.lemmas.Int.{ints}
use Rattle.algebra.specs.Frac.{◌≤F◌}
use Rattle.algebra.proofs.Frac.{from_≈, refl_≤}
use Rattle.surface.specs.Shape.{Lawful}
use Rattle.model.specs.Tandems.{no_tandem}
use Rattle.lines.specs.Axles.{axle_line}
use Rattle.lines.specs.Lines.{Line, axles, Summit}
use Rattle.lines.proofs.Lanes.{rises}
use Rattle.lines.proofs.Tandems.{tandem_some, tandem_none}
use Rattle.statement.specs.Effects.{Tandems}
use Rattle.statement.proofs.Effects.{shown}
use Rattle.decks.proofs.Winners.{w30}
use Rattle.doubts.proofs.Small.{small}
use Rattle.doubts.specs.Allowance.{one_fall, all_fall, all_of, at_left, AllowanceStands}

-- ---- both decks are lawful
fall_within : (a b : Bool) → nat_abs (cond a (cond b (pos 2) (negsuc 0)) (pos 0)) ≤ 100000
fall_within true true = omega arith
fall_within true false = omega arith
fall_within false b = omega arith

one_lawful : Lawful one_fall
one_lawful = record {
  wide = omega arith;
  narrow = omega arith;
  some = omega arith;
  few = omega arith;
  begins = refl;
  rises = λ k h. omega arith;
  ends = λ k h. omega arith;
  within = λ j k h l. fall_within (eqb j 7) (eqb k 0);
}

unit_within : (b : Bool) → nat_abs (cond b (pos 1) (pos 0)) ≤ 100000
unit_within true = omega arith
unit_within false = omega arith

all_lawful : Lawful all_fall
all_lawful = record {
  wide = omega arith;
  narrow = omega arith;
  some = omega arith;
  few = omega arith;
  begins = refl;
  rises = λ k h. omega arith;
  ends = λ k h. omega arith;
  within = λ j k h l. unit_within (eqb k 0);
}

-- ---- their tandems
none_stands : Tandems (all_of one_fall) (λ x. no_tandem)
none_stands x h = tandem_none _ (λ a b s. absurd (omega (arith, s.some, s.fits)))

abbrev falling : ℕ → Line
falling x = axle_line all_fall x 60

-- the rear axle at 0, against the other place where an axle is at a station
ahead_of : (x e j : ℕ) → j < 2 → (e ≡ 2700 * j) ⊎ (e + 1200 ≡ 2700 * j) → e + 1200 ≤ 2700 → axles (falling x) e 1 ≤F axles (falling x) 0 1
ahead_of x e zero l c fits =
    let z : e ≡ 0 = ⊎_elim (λ (q : e ≡ 2700 * 0). omega arith) (λ (q : e + 1200 ≡ 2700 * 0). omega arith) c in
    subst (λ i. axles (falling x) i 1 ≤F axles (falling x) 0 1) (sym z) (refl_≤ _)
ahead_of x e (suc zero) l c fits =
    let z : e ≡ 1500 = ⊎_elim (λ (q : e ≡ 2700 * 1). omega arith) (λ (q : e + 1200 ≡ 2700 * 1). omega arith) c in
    subst (λ i. axles (falling x) i 1 ≤F axles (falling x) 0 1) (sym z) (record { cross = omega (arith, ints) })
ahead_of x e (suc (suc j)) l c fits = absurd (omega arith)

summit : (x : ℕ) → Summit (falling x) 0
summit x = record {
  fits = omega arith;
  ahead = λ e c. let a = c.axle in record { most = ahead_of x e a.0 a.1 a.2 c.fits; first = λ h. omega arith };
}

one_stands : Tandems (all_of all_fall) (λ x. record { t = 62223; place = Some 0 })
one_stands x h = tandem_some (falling (0 + x)) (rises all_fall all_lawful (0 + x) 60) 0 (summit (0 + x)) 56 9 (omega arith) (from_≈ _ _ refl) 62223 (omega arith) refl

pub rounds : AllowanceStands
rounds = record {
  sign_change = record {
    lawful = one_lawful;
    tandems = none_stands;
    permitted = shown (all_of one_fall) _ none_stands at_left w30.winner.laid;
    rounded_is = refl;
    exact_is = from_≈ _ _ refl;
    allowance_is = refl;
    below = λ h. omega (arith, ints, h.cross);
  };
  tandem = record {
    lawful = all_lawful;
    tandems = one_stands;
    permitted = shown (all_of all_fall) _ one_stands at_left w30.winner.laid;
    rounded_is = refl;
    exact_is = from_≈ _ _ refl;
    allowance_is = refl;
    below = λ h. omega (arith, ints, h.cross);
  };
  small = small;
}
