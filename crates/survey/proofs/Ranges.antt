-- Ranges of ordinates, joined one after the other.
use Rattle.std.proofs.Common.{◌≡◌, ℕ, ◌+◌, ◌<◌, ◌⊎◌, ℤ, sym, refl, ap, ◌∙◌, inl, inr, ⊎_elim, arith}
use borrow.Author.Differences.{ints}
use Rattle.std.proofs.lemmas.Bool.{cases_lt}
use Rattle.survey.specs.Extents.{Spans, Both, Station, Spot, On}
use Rattle.survey.specs.declared.extent.Range.{Range}

module _ {X : Type 0} (f : X → ℤ) where
  -- one value alone
  pub span_one : (P : X → Type 0) (x : X) (r : Range) → P x → ((y : X) → P y → f y ≡ f x) → r.least ≡ f x → r.greatest ≡ f x → Spans P f r
  span_one P x r h only lo hi = record {
    low = λ y p. let e = only y p in omega (arith, ints);
    high = λ y p. let e = only y p in omega (arith, ints);
    least_is = (x, h, sym lo);
    greatest_is = (x, h, sym hi);
  }

  -- what holds of either range holds of both together
  pub span_both : (P Q R : X → Type 0) (a b r : Range) → ((x : X) → R x → P x ⊎ Q x) → ((x : X) → P x → R x) → ((x : X) → Q x → R x) → Spans P f a → Spans Q f b → Both a b r → Spans R f r
  span_both P Q R a b r split p q sa sb w = record {
    low = λ x h. ⊎_elim (λ l. let i = sa.low x l in let j = w.low_left in omega (arith, ints)) (λ l. let i = sb.low x l in let j = w.low_right in omega (arith, ints)) (split x h);
    high = λ x h. ⊎_elim (λ l. let i = sa.high x l in let j = w.high_left in omega (arith, ints)) (λ l. let i = sb.high x l in let j = w.high_right in omega (arith, ints)) (split x h);
    least_is = ⊎_elim (λ e. let i = sa.least_is in (i.0, p i.0 i.1, i.2 ∙ sym e)) (λ e. let i = sb.least_is in (i.0, q i.0 i.1, i.2 ∙ sym e)) w.least_is;
    greatest_is = ⊎_elim (λ e. let i = sa.greatest_is in (i.0, p i.0 i.1, i.2 ∙ sym e)) (λ e. let i = sb.greatest_is in (i.0, q i.0 i.1, i.2 ∙ sym e)) w.greatest_is;
  }

-- one station more
pub station_more : (y : ℕ → ℤ) (k : ℕ) (a b r : Range) → Spans (Station k) y a → b.least ≡ y k → b.greatest ≡ y k → Both a b r → Spans (Station (k + 1)) y r
station_more y k a b r s lo hi w =
    span_both y (Station k) (λ x. x ≡ k) (Station (k + 1)) a b r
    (λ x h. ⊎_elim (λ l. inl l) (λ l. inr (omega arith)) (cases_lt x k))
    (λ x h. omega arith)
    (λ x e. omega arith)
    s
    (span_one y (λ x. x ≡ k) k b refl (λ x e. ap y e) lo hi)
    w

-- the ordinates of slice j, among all
slice_spots : (y : ℕ → ℕ → ℤ) (n j : ℕ) (r : Range) → Spans (Station n) (y j) r → Spans (λ (x : Spot). (x.slice ≡ j) × (x.station < n)) (λ (x : Spot). y x.slice x.station) r
slice_spots y n j r s = record {
  low = λ x p. let e = ap (λ i. y i x.station) p.0 in let h = s.low x.station p.1 in omega (arith, ints);
  high = λ x p. let e = ap (λ i. y i x.station) p.0 in let h = s.high x.station p.1 in omega (arith, ints);
  least_is = let i = s.least_is in (record { slice = j; station = i.0 }, (refl, i.1), i.2);
  greatest_is = let i = s.greatest_is in (record { slice = j; station = i.0 }, (refl, i.1), i.2);
}

pub slice_first : (y : ℕ → ℕ → ℤ) (n : ℕ) (r : Range) → Spans (Station n) (y 0) r → Spans (On 1 n) (λ (x : Spot). y x.slice x.station) r
slice_first y n r s =
    let t = slice_spots y n 0 r s in
    record {
      low = λ x p. t.low x (omega arith, p.1);
      high = λ x p. t.high x (omega arith, p.1);
      least_is = let i = t.least_is in (i.0, (omega arith, i.1.1), i.2);
      greatest_is = let i = t.greatest_is in (i.0, (omega arith, i.1.1), i.2);
    }

-- one slice more
pub slice_more : (y : ℕ → ℕ → ℤ) (n j : ℕ) (a b r : Range) → Spans (On j n) (λ (x : Spot). y x.slice x.station) a → Spans (Station n) (y j) b → Both a b r → Spans (On (j + 1) n) (λ (x : Spot). y x.slice x.station) r
slice_more y n j a b r s t w =
    span_both (λ (x : Spot). y x.slice x.station) (On j n) (λ (x : Spot). (x.slice ≡ j) × (x.station < n)) (On (j + 1) n) a b r
    (λ x h. ⊎_elim (λ l. inl (l, h.1)) (λ l. inr (omega arith, h.1)) (cases_lt x.slice j))
    (λ x h. (omega arith, h.1))
    (λ x h. (omega arith, h.1))
    s
    (slice_spots y n j b t)
    w
