-- The winners on the trial deck at the widths 30, 53 and 54.
use Rattle.std.proofs.Common.{◌≡◌, ℕ, ◌+◌, ◌-◌, ◌*◌, ◌<◌, ◌≤◌, false, ◌&&◌, eqb, ltb, ◌⊎◌, [], ◌∷◌, sym, refl, ap, subst, subst₂, inl, inr, ⊎_elim, arith}
use Rattle.std.proofs.lemmas.Bool.{cases_lt, eqb-true, le-ltb, or_from, and_right}
use Rattle.model.specs.declared.tandems.Tandem.{Tandem}
use Rattle.model.specs.declared.weights.LoadKind.TheVariants.{Characteristic}
use Rattle.placing.specs.Placing.{Before}
use Rattle.worths.specs.declared.kerbed.Kerbed.{Kerbed}
use Rattle.statement.specs.Lanes.{Laid, owners_of}
use Rattle.statement.specs.Effects.{rounded_effect, kerb_count}
use Rattle.decks.specs.Decks.{trial, trial_tandem, lanes_at, kerbs_of, Wins, WinsDrawn}
use Rattle.decks.proofs.Computed.{all_below, each_below, comes_first, before_is}

abbrev T : ℕ → Tandem
T = λ _. trial_tandem

-- ---- one lane
one_lane : (w s : ℕ) (e : s + 60 ≤ 2 * w) (lanes : ℕ → ℕ) → lanes 1 ≡ s → (i : ℕ) → (1 ≤ i) × (i ≤ 1) → lanes i + 60 ≤ 2 * w
one_lane w s e lanes q i n = let z : i ≡ 1 = omega (arith, n) in subst (λ m. lanes m + 60 ≤ 2 * w) (sym z) (omega arith)

not_below : (a b : ℕ) → b ≡ a → ltb a b ≡ false
not_below a b e = le-ltb a b (omega arith)

only_30 : (o : ℕ → ℕ) → Laid (kerbs_of 0 30) o → o 1 ≡ 0
only_30 o l = let m = l.inside 1 (omega arith, omega arith) in omega arith

effect30 : (s : ℕ) → s ≡ 0 → rounded_effect (trial 30 Characteristic) T (λ _. s) ≡ 166800000000000
effect30 s e = ap (λ i. rounded_effect (trial 30 Characteristic) T (λ _. i)) e

pub w30 : Wins 30 (0 ∷ []) 166800000000000
unfolding comes_first
w30 = record {
  winner = record {
    laid = record { inside = one_lane 30 0 (omega arith) (lanes_at (0 ∷ [])) refl; apart = λ i j h k l. absurd (omega (arith, h, k)) };
    greatest = λ others l. not_below 166800000000000 (rounded_effect (trial 30 Characteristic) T others) (effect30 (others 1) (only_30 others l));
    first = λ others l e.
        subst (λ s. Before (owners_of (kerbs_of 0 30) (lanes_at (0 ∷ []))) (owners_of (kerbs_of 0 30) (λ _. s))) (sym (only_30 others l))
        (before_is (owners_of (kerbs_of 0 30) (lanes_at (0 ∷ []))) (owners_of (kerbs_of 0 30) (λ _. 0)) refl);
  };
  attained = refl;
}

effect53 : (s : ℕ) → s < 47 → rounded_effect (trial 53 Characteristic) T (λ _. s) ≡ 178300000000000
unfolding all_below
effect53 s h = eqb-true _ _ (each_below 47 (λ i. eqb (rounded_effect (trial 53 Characteristic) T (λ _. i)) 178300000000000) refl s h)

before53 : (s : ℕ) → s < 47 → Before (owners_of (kerbs_of 0 53) (λ _. 46)) (owners_of (kerbs_of 0 53) (λ _. s))
unfolding all_below comes_first
before53 s h = before_is (owners_of (kerbs_of 0 53) (λ _. 46)) (owners_of (kerbs_of 0 53) (λ _. s)) (each_below 47 (λ i. comes_first (owners_of (kerbs_of 0 53) (λ _. 46)) (owners_of (kerbs_of 0 53) (λ _. i))) refl s h)

within : (o : ℕ → ℕ) → Laid (kerbs_of 0 53) o → o 1 < 47
within o l = let m = l.inside 1 (omega arith, omega arith) in omega arith

pub w53 : Wins 53 (46 ∷ []) 178300000000000
w53 = record {
  winner = record {
    laid = record { inside = one_lane 53 46 (omega arith) (lanes_at (46 ∷ [])) refl; apart = λ i j h k l. absurd (omega (arith, h, k)) };
    greatest = λ others l. not_below 178300000000000 (rounded_effect (trial 53 Characteristic) T others) (effect53 (others 1) (within others l));
    first = λ others l e. before53 (others 1) (within others l);
  };
  attained = refl;
}

not_nearer : (k o : ℕ) → k ≡ 0 + (300 - o) → ltb 300 k ≡ false
not_nearer k o e = le-ltb 300 k (omega arith)

at_kerb : (o : ℕ) → o < 47 → 0 + (300 - o) ≡ 300 → o ≡ 0
at_kerb o h e = omega arith

pub w53_drawn : WinsDrawn 53 (0 ∷ []) 178300000000000
unfolding comes_first
w53_drawn = record {
  winner = record {
    laid = record { inside = one_lane 53 0 (omega arith) (lanes_at (0 ∷ [])) refl; apart = λ i j h k l. absurd (omega (arith, h, k)) };
    greatest = λ others l.
        or_from (ltb 178300000000000 (rounded_effect (trial 53 Characteristic) T others)) (eqb 178300000000000 (rounded_effect (trial 53 Characteristic) T others) && ltb 300 (kerb_count (trial 53 Characteristic) others))
        (not_below 178300000000000 (rounded_effect (trial 53 Characteristic) T others) (effect53 (others 1) (within others l)))
        (and_right (eqb 178300000000000 (rounded_effect (trial 53 Characteristic) T others)) (ltb 300 (kerb_count (trial 53 Characteristic) others)) (not_nearer (kerb_count (trial 53 Characteristic) others) (others 1) refl));
    first = λ others l e.
        subst (λ s. Before (owners_of (kerbs_of 0 53) (lanes_at (0 ∷ []))) (owners_of (kerbs_of 0 53) (λ _. s))) (sym (at_kerb (others 1) (within others l) (ap (λ (x : Kerbed). x.kerb) e)))
        (before_is (owners_of (kerbs_of 0 53) (lanes_at (0 ∷ []))) (owners_of (kerbs_of 0 53) (λ _. 0)) refl);
  };
  attained = refl;
}

-- ---- two lanes of 54 slices on 108
two : (o : ℕ → ℕ) → o 1 + 54 ≤ 108 → o 2 + 54 ≤ 108 → (o 1 + 54 ≤ o 2) ⊎ (o 2 + 54 ≤ o 1) → ((o 1 ≡ 0) × (o 2 ≡ 54)) ⊎ ((o 1 ≡ 54) × (o 2 ≡ 0))
two o a b c = ⊎_elim (λ (l : o 1 + 54 ≤ o 2). inl (omega arith, omega arith)) (λ (l : o 2 + 54 ≤ o 1). inr (omega arith, omega arith)) c

numbered_two : (i : ℕ) → (1 ≤ i) × (i ≤ 2) → (i ≡ 1) ⊎ (i ≡ 2)
numbered_two i n = ⊎_elim (λ (l : i < 2). inl (omega (arith, n))) (λ (l : 2 ≤ i). inr (omega (arith, n))) (cases_lt i 2)

either : (o : ℕ → ℕ) → Laid (kerbs_of 0 54) o → ((o 1 ≡ 0) × (o 2 ≡ 54)) ⊎ ((o 1 ≡ 54) × (o 2 ≡ 0))
either o l = two o (l.inside 1 (omega arith, omega arith)) (l.inside 2 (omega arith, omega arith)) (l.apart 1 2 (omega arith, omega arith) (omega arith, omega arith) (omega arith))

-- what holds of both orders holds of all lanes that are laid
both_orders : (P : (ℕ → ℕ) → Type 0) (o : ℕ → ℕ) → ((a b : ℕ) → o 1 ≡ a → o 2 ≡ b → P (lanes_at (a ∷ b ∷ [])) → P o) → P (lanes_at (0 ∷ 54 ∷ [])) → P (lanes_at (54 ∷ 0 ∷ [])) → Laid (kerbs_of 0 54) o → P o
both_orders P o same left right l = ⊎_elim
    (λ (e : (o 1 ≡ 0) × (o 2 ≡ 54)). same 0 54 e.0 e.1 left)
    (λ (e : (o 1 ≡ 54) × (o 2 ≡ 0)). same 54 0 e.0 e.1 right)
    (either o l)

effect54 : (o : ℕ → ℕ) → Laid (kerbs_of 0 54) o → rounded_effect (trial 54 Characteristic) T o ≡ 250100000000000
effect54 o = both_orders (λ s. rounded_effect (trial 54 Characteristic) T s ≡ 250100000000000) o
    (λ a b e f h. subst₂ (λ (x y : ℕ). rounded_effect (trial 54 Characteristic) T (lanes_at (x ∷ y ∷ [])) ≡ 250100000000000) (sym e) (sym f) h) refl refl

before54 : (o : ℕ → ℕ) → Laid (kerbs_of 0 54) o → Before (owners_of (kerbs_of 0 54) (lanes_at (0 ∷ 54 ∷ []))) (owners_of (kerbs_of 0 54) o)
unfolding comes_first
before54 o = both_orders (λ s. Before (owners_of (kerbs_of 0 54) (lanes_at (0 ∷ 54 ∷ []))) (owners_of (kerbs_of 0 54) s)) o
    (λ a b e f h. subst₂ (λ (x y : ℕ). Before (owners_of (kerbs_of 0 54) (lanes_at (0 ∷ 54 ∷ []))) (owners_of (kerbs_of 0 54) (lanes_at (x ∷ y ∷ [])))) (sym e) (sym f) h)
    (before_is (owners_of (kerbs_of 0 54) (lanes_at (0 ∷ 54 ∷ []))) (owners_of (kerbs_of 0 54) (lanes_at (0 ∷ 54 ∷ []))) refl)
    (before_is (owners_of (kerbs_of 0 54) (lanes_at (0 ∷ 54 ∷ []))) (owners_of (kerbs_of 0 54) (lanes_at (54 ∷ 0 ∷ []))) refl)

pub w54 : Wins 54 (0 ∷ 54 ∷ []) 250100000000000
w54 = record {
  winner = record {
    laid = record {
      inside = λ i n. ⊎_elim (λ (e : i ≡ 1). subst (λ m. lanes_at (0 ∷ 54 ∷ []) m + 54 ≤ 108) (sym e) (omega arith)) (λ (e : i ≡ 2). subst (λ m. lanes_at (0 ∷ 54 ∷ []) m + 54 ≤ 108) (sym e) (omega arith)) (numbered_two i n);
      apart = λ i j n m l.
          let e : i ≡ 1 = omega (arith, n, m) in
          let f : j ≡ 2 = omega (arith, n, m) in
          inl (subst₂ (λ (a b : ℕ). lanes_at (0 ∷ 54 ∷ []) a + 54 ≤ lanes_at (0 ∷ 54 ∷ []) b) (sym e) (sym f) (omega arith));
    };
    greatest = λ others l. not_below 250100000000000 (rounded_effect (trial 54 Characteristic) T others) (effect54 others l);
    first = λ others l q. before54 others l;
  };
  attained = refl;
}
