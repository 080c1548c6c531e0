-- What the best placement gives is all that a figure promises.
use Rattle.std.proofs.Common.{◌≡◌, ℕ, zero, suc, ◌≤◌, ltb, List, [], ◌∷◌, length, get_or, drop, pos, sym, refl, ap, ◌∙◌, subst, arith}
use Rattle.std.proofs.lemmas.Int.{ints}
use Rattle.std.proofs.lemmas.Bool.{ltb-false, or_parts}
use Rattle.algebra.specs.Frac.{◌≤F◌, whole, ◌+F◌}
use Rattle.algebra.proofs.Frac.{trans}
use Rattle.placing.specs.Kind.{Kind, Counts}
use Rattle.placing.specs.Placing.{owners as part_owners}
use Rattle.worths.specs.Kinds.{effect_kind, kerbed_kind, kerbed}
use Rattle.statement.specs.Effects.{exact, rounded_effect, allowance, handed_back}
use Rattle.statement.specs.Figures.{ListsCount, RatedServes}
use Rattle.statement.proofs.Effects.{bounded, shown, nearby}
use Rattle.statement.proofs.Wins.{chosen_wins}

-- ---- the two kinds of worth are made of effects and kerb counts
pub effect_counts : Counts effect_kind (λ e k. e)
effect_counts = record { none = refl; sums = λ e k f l. refl; light = λ e k. omega arith; led = λ e k f l h. ltb-false e f h }

pub kerbed_counts : Counts kerbed_kind kerbed
kerbed_counts = record { none = refl; sums = λ e k f l. refl; light = λ e k. omega arith; led = λ e k f l h. ltb-false e f (or_parts (ltb e f) _ h).0 }

whole_le : (a b : ℕ) → a ≤ b → whole (pos a) ≤F whole (pos b)
whole_le a b h = record { cross = omega (arith, ints) }

pub lists_count : ListsCount
lists_count g areas areas' tandems tandems' a t = record {
  slices = refl;
  lane = refl;
  kind = refl;
  factors = refl;
  areas = a.areas;
  tops = λ x h. refl;
}

pub rated_serves : {W : Type 0} (K : Kind W) (made : ℕ → ℕ → W) → Counts K made → RatedServes K made
rated_serves K made counts g tandems l r known w owners rated =
    let c = chosen_wins K made counts g tandems l r rated.won.parts rated.won.chosen in
    let v = c.winner in
    record {
      rivals = λ x h. trans (bounded g tandems known x h)
          (whole_le _ _ (subst (λ f. rounded_effect g tandems x.starts ≤ f) (sym c.attained) (counts.led _ _ _ _ (v.greatest x.starts h.laid))));
      known = known;
      starts = c.starts;
      shown = rated.won.same ∙ ap (λ n. part_owners n rated.won.parts) r.lane ∙ c.slices;
      winner = v;
      attained = c.attained;
      permitted = shown g tandems known c.starts v.laid;
      near = subst (λ f. whole (pos f) ≤F exact g (handed_back g tandems c.starts) +F whole (pos (allowance g tandems c.starts))) (sym c.attained) (nearby g tandems known c.starts v.laid);
    }

-- ---- lists that agree beyond a place
pub kept_beyond : {X : Type 0} (n : ℕ) (xs ys : List X) (d : X) → length xs ≡ length ys → ((j : ℕ) → n ≤ j → get_or xs j d ≡ get_or ys j d) → drop n xs ≡ drop n ys
kept_beyond zero [] [] d e h = refl
kept_beyond zero [] (y ∷ ys) d e h = absurd (omega arith)
kept_beyond zero (x ∷ xs) [] d e h = absurd (omega arith)
kept_beyond zero (x ∷ xs) (y ∷ ys) d e h =
    let a : x ≡ y = h 0 (omega arith) in
    let r = kept_beyond zero xs ys d (omega arith) (λ j l. h (suc j) (omega arith)) in
    cc
kept_beyond (suc n) [] [] d e h = refl
kept_beyond (suc n) [] (y ∷ ys) d e h = absurd (omega arith)
kept_beyond (suc n) (x ∷ xs) [] d e h = absurd (omega arith)
kept_beyond (suc n) (x ∷ xs) (y ∷ ys) d e h = kept_beyond n xs ys d (omega arith) (λ j l. h (suc j) (omega arith))
