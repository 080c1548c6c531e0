-- The trial decks, together.
use Rattle.std.proofs.Common.{◌≡◌, ℕ, zero, suc, ◌+◌, ◌<◌, Bool, true, false, eqb, ℤ, pos, negsuc, refl, ap, arith}
use Rattle.std.proofs.lemmas.Bool.{both_ways, eqb-true}
use Rattle.model.specs.Lanes.{lane_slices}
use Rattle.lines.proofs.Unique.{none_fits, one_fits}
use Rattle.decks.specs.Decks.{Decks, Wide, trial_table, even_deck}
use Rattle.decks.proofs.Computed.{all_below, each_below}
use Rattle.decks.proofs.Tandem.{tandem}
use Rattle.decks.proofs.Winners.{w30, w53, w53_drawn, w54}

-- ---- the trial table, slice by slice
is_pos : ℕ → ℤ → Bool
is_pos v (pos c) = eqb c v
is_pos v (negsuc c) = false

pos_is : (v : ℕ) (z : ℤ) → is_pos v z ≡ true → z ≡ pos v
unfolding is_pos
pos_is v (pos c) e = ap pos (eqb-true c v e)
pos_is v (negsuc c) e = absurd (both_ways false refl e)

flat : (j k : ℕ) → j < 120 → k < 3 → trial_table.ordinate j k ≡ (even_deck 120).ordinate j k
unfolding all_below is_pos
flat j zero h l = pos_is 0 _ (each_below 120 (λ i. is_pos 0 (trial_table.ordinate i 0)) refl j h)
flat j (suc zero) h l = pos_is 5000 _ (each_below 120 (λ i. is_pos 5000 (trial_table.ordinate i 1)) refl j h)
flat j (suc (suc zero)) h l = pos_is 0 _ (each_below 120 (λ i. is_pos 0 (trial_table.ordinate i 2)) refl j h)
flat j (suc (suc (suc k))) h l = absurd (omega arith)

places : (k : ℕ) → k < 3 → trial_table.place k ≡ (even_deck 120).place k
places zero l = refl
places (suc zero) l = refl
places (suc (suc zero)) l = refl
places (suc (suc (suc k))) l = absurd (omega arith)

pub decks : Decks
decks = record {
  table = flat;
  places = places;
  tandems = λ w kind x h. tandem 120 (0 + x) (lane_slices w);
  w29 = refl;
  five = refl;
  w30_taken = refl;
  w30_lanes = record { count_is = refl; slices_is = refl };
  w30 = w30;
  w53 = w53;
  w53_drawn = w53_drawn;
  w54_lanes = record { count_is = refl; slices_is = refl };
  w54 = w54;
  falling = λ j. refl;
  halving = λ j. refl;
  hanging = λ j. refl;
  no_room = none_fits;
  just_room = one_fits;
  room = λ d e. record { some = omega arith; fits = omega (arith, e) };
  odd_lane = refl;
  rounded_down = refl;
}

pub wide : Wide
wide = record { lanes = record { count_is = refl; slices_is = refl }; tandems = λ kind x h. tandem 300 (1 + x) 60; characteristic = refl; frequent = refl }
