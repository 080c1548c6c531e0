-- The surface turned: what is permitted stays permitted, and lanes keep their rounded effect.
use Rattle.std.proofs.Common.{◌≡◌, ℕ, zero, suc, ◌+◌, ◌-◌, ◌*◌, ◌<◌, ◌≤◌, Bool, true, false, cond, ◌&&◌, ltb, leb, Some, None, Option, sym, refl, ap, ◌∙◌, subst, ap₂, inl, inr, ⊎_elim, arith}
use Rattle.std.proofs.lemmas.Bool.{cases_lt, and_parts, leb-true, le-leb, lt-leb, lt-ltb, le-ltb}
use Rattle.algebra.proofs.Sums.{total_cong, total_reverse}
use Rattle.card.specs.Bounds.{kerbs_fit}
use Rattle.surface.specs.Shape.{Lawful, side_for_side}
use Rattle.model.specs.Lanes.{breadth, lane_slices, mirror}
use Rattle.model.specs.Weights.{uniform_weight}
use Rattle.model.specs.declared.lanes.Carriageway.{Carriageway}
use Rattle.model.specs.declared.tandems.Tandem.{Tandem}
use Rattle.model.proofs.Tables.{lane_range}
use Rattle.lines.specs.Axles.{axle_line}
use Rattle.lines.specs.Lines.{IsTandem}
use Rattle.lines.specs.Areas.{area_of}
use Rattle.lines.proofs.Areas.{area_sides, area_ends}
use Rattle.lines.proofs.Lanes.{tandem_sides, tandem_ends}
use Rattle.lines.proofs.Unique.{one_tandem}
use Rattle.statement.specs.Lanes.{Starts, Numbered, Laid, lane_at, owner_of}
use Rattle.statement.specs.Effects.{Setting, lane_count, lane_width, lane_line, on_deck, tandem_share, uniform_share, Place, Tandems, rounded_effect}
use Rattle.statement.specs.Turns.{sides_turned, ends_turned, facing, other_end, SidesPermitted, EndsPermitted, SidesKeep, EndsKeep}
use Rattle.statement.proofs.Effects.{none_some, some_is}

-- ---- lanes
-- each lane of the one lies as far from the right kerb as that of the other from the left
pub faces : (k : Carriageway) (starts : Starts) → Laid k starts → (i : ℕ) → Numbered k i → starts i + lane_slices k.width + facing k starts i ≡ breadth k
faces k starts laid i h = omega (arith, laid.inside i h)

pub keeps_laid : (k : Carriageway) (n : ℕ) (starts : Starts) → Laid k starts → Laid (mirror n k) (facing k starts)
keeps_laid k n starts laid = record {
  inside = λ i h. omega (arith, faces k starts laid i h);
  apart = λ i j h h' l. ⊎_elim
      (λ (a : starts i + lane_slices k.width ≤ starts j). inr (omega (arith, faces k starts laid i h, faces k starts laid j h')))
      (λ (a : starts j + lane_slices k.width ≤ starts i). inl (omega (arith, faces k starts laid i h, faces k starts laid j h')))
      (laid.apart i j h h' l);
}

same_test : (a b c d : ℕ) → (a ≤ b → c < d) → (b < a → d ≤ c) → leb a b ≡ ltb c d
same_test a b c d f h = ⊎_elim (λ (l : b < a). lt-leb a b l ∙ sym (le-ltb c d (h l))) (λ (l : a ≤ b). le-leb a b l ∙ sym (lt-ltb c d (f l))) (cases_lt b a)

and_swap : (x y : Bool) → (x && y) ≡ (y && x)
and_swap true true = refl
and_swap true false = refl
and_swap false true = refl
and_swap false false = refl

pub lane_across : (l b : ℕ) (starts others : Starts) (n : ℕ) → ((i : ℕ) → 1 ≤ i → i ≤ n → starts i + l + others i ≡ b) → (j : ℕ) → j < b → lane_at l others n j ≡ lane_at l starts n (b - 1 - j)
lane_across l b starts others zero m j h = refl
lane_across l b starts others (suc n) m j h =
    let e = m (suc n) (omega arith) (omega arith) in
    let s = starts (suc n) in
    let o = others (suc n) in
    let t : (leb o j && ltb j (o + l)) ≡ (leb s (b - 1 - j) && ltb (b - 1 - j) (s + l)) =
    ap₂ (λ (x y : Bool). x && y) (same_test o j (b - 1 - j) (s + l) (λ a. omega arith) (λ a. omega arith)) (sym (same_test s (b - 1 - j) j (o + l) (λ a. omega arith) (λ a. omega arith)))
    ∙ and_swap (ltb (b - 1 - j) (s + l)) (leb s (b - 1 - j)) in
    ap₂ (λ (x : Bool) (y : ℕ). cond x (suc n) y) t (lane_across l b starts others n (λ i f k. m i f (omega arith)) j h)

-- ---- side for side
pub sides_permitted : SidesPermitted
sides_permitted g x p = record {
  laid = keeps_laid g.kerbs g.surface.slices x.starts p.laid;
  only = λ i n l. p.only i n l;
  stands = λ i q n e. let s = p.stands i q n e in record { some = s.some; fits = s.fits };
}

module _ (g : Setting) (fit : kerbs_fit g.surface.slices g.kerbs ≡ true) where
  pub inside_deck : g.kerbs.first + breadth g.kerbs ≤ g.surface.slices
  inside_deck = leb-true _ _ (and_parts (leb g.kerbs.width 150) _ (and_parts (leb 30 g.kerbs.width) _ fit).1).1

  area_across : (j : ℕ) → j < breadth g.kerbs → area_of (side_for_side g.surface) (on_deck (sides_turned g) j) ≡ area_of g.surface (on_deck g (breadth g.kerbs - 1 - j))
  area_across j h =
      let i = on_deck g (breadth g.kerbs - 1 - j) in
      ap (area_of (side_for_side g.surface)) (omega (arith, inside_deck)) ∙ area_sides g.surface i (omega (arith, inside_deck))

  tandem_across : Lawful g.surface → (x y t u : ℕ) (p q : Option ℕ) → x + lane_width g + y ≡ breadth g.kerbs → IsTandem (lane_line g x) t p → IsTandem (lane_line (sides_turned g) y) u q → u ≡ t
  tandem_across lawful x y t u p q e h k =
      let a = on_deck g x in
      let l = lane_width g in
      let there = tandem_sides g.surface lawful a l t p (lane_range g.kerbs.width).0 (omega (arith, inside_deck)) h in
      let same : g.surface.slices - a - l ≡ on_deck (sides_turned g) y = omega (arith, inside_deck) in
      sym (one_tandem (lane_line (sides_turned g) y) t u p q (subst (λ i. IsTandem (axle_line (side_for_side g.surface) i l) t p) same there) k).0

-- lanes that lie as far from either kerb
abbrev pub Facing : Carriageway → Starts → Starts → Type 0
Facing k starts there = (i : ℕ) → Numbered k i → starts i + lane_slices k.width + there i ≡ breadth k

pub keeps_facing : (g : Setting) → Lawful g.surface → kerbs_fit g.surface.slices g.kerbs ≡ true → (tandems others : ℕ → Tandem) → Tandems g tandems → Tandems (sides_turned g) others
    → (starts there : Starts) → Facing g.kerbs starts there → rounded_effect (sides_turned g) others there ≡ rounded_effect g tandems starts
keeps_facing g lawful fit tandems others known turned starts there m =
    let b = breadth g.kerbs in
    let l = lane_width g in
    let here : ℕ → ℕ = λ j. uniform_share g starts j * area_of g.surface (on_deck g j) in
    ap₂ (λ (x y : ℕ). x + y)
    (total_cong (lane_count g) _ _ (λ i h.
    let e = m (suc i) (omega arith, omega arith) in
    ap (λ t. tandem_share g (suc i) * t) (tandem_across g fit lawful (starts (suc i)) (there (suc i)) _ _ _ _ e (known (starts (suc i)) (omega arith)) (turned (there (suc i)) (omega arith)))))
    (total_cong b _ (λ j. here (b - 1 - j)) (λ j h.
    ap₂ (λ (o a : ℕ). uniform_weight g.kind g.factors (owner_of o) * a) (lane_across l b starts there (lane_count g) (λ i a c. m i (a, c)) j h) (area_across g fit j h))
    ∙ sym (total_reverse b here))

pub keeps : SidesKeep
keeps g lawful fit tandems others known turned starts laid = keeps_facing g lawful fit tandems others known turned starts (facing g.kerbs starts) (faces g.kerbs starts laid)

-- ---- end for end
other_some : (last : ℕ) (o : Option Place) (q : Place) → other_end last o ≡ Some q → (p : Place) × (o ≡ Some p) × (q.den ≡ p.den) × (q.num ≡ last * p.den - p.num - 1200 * p.den)
other_some last None q e = none_some q e
other_some last (Some p) q e =
    let s = some_is _ q e in
    (p, refl, sym (ap (λ (z : Place). z.den) s), sym (ap (λ (z : Place). z.num) s))

other_none : (last : ℕ) (o : Option Place) → o ≡ None → other_end last o ≡ None
other_none last o e = ap (other_end last) e

pub last_same : (g : Setting) → Lawful g.surface → (ends_turned g).surface.place (g.surface.stations - 1) ≡ g.surface.place (g.surface.stations - 1)
last_same g lawful =
    let n = g.surface.stations - 1 in
    let e : g.surface.place (n - n) ≡ g.surface.place 0 = ap g.surface.place (omega arith) in
    omega (arith, lawful.begins)

pub ends_permitted : EndsPermitted
ends_permitted g lawful x load p = record {
  laid = p.laid;
  only = λ i n l. other_none _ (x.tandem i) (p.only i n l);
  stands = λ i q n e.
      let last = g.surface.place (g.surface.stations - 1) in
      let o = other_some last (x.tandem i) q e in
      let s = p.stands i o.0 n o.1 in
      let d = o.2 in
      let m = ap (λ z. z * q.den) (last_same g lawful) in
      let r : last * q.den ≡ last * o.0.den = ap (λ z. last * z) d in
      record { some = omega (arith, s.some); fits = omega (arith, s.fits, o.3, m, r) };
}

pub keeps_ends : EndsKeep
keeps_ends g lawful tandems others known turned starts laid =
    ap₂ (λ (x y : ℕ). x + y)
    (total_cong (lane_count g) _ _ (λ i h.
    let fits = laid.inside (suc i) (omega arith, omega arith) in
    ap (λ t. tandem_share g (suc i) * t)
    (sym (tandem_ends g.surface lawful (on_deck g (starts (suc i))) (lane_width g) _ _ _ _ (known (starts (suc i)) fits) (turned (starts (suc i)) fits)))))
    (total_cong (breadth g.kerbs) _ _ (λ j h. ap (λ a. uniform_share g starts j * a) (area_ends g.surface lawful (on_deck g j))))
