-- Where the other axle of a tandem stands.
use Rattle.std.proofs.Common.{◌≡◌, ℕ, ◌+◌, ◌-◌, ◌<◌, ◌≤◌, min, List, [], get_or, take, Some, None, Option, MatchOption, sym, refl, ap, subst, inl, inr, arith}
use Rattle.std.proofs.lemmas.List.{get_or-take}
use Rattle.lines.proofs.Values.{place_up}
use Rattle.loads.specs.declared.others.Axle.{Axle}
use Rattle.loads.specs.declared.others.Axle.TheVariants.{Rear, Second}
use Rattle.lines.specs.Lines.{Line}
use Rattle.loads.specs.declared.others.Other.{Other}
use Rattle.loads.specs.declared.others.Others.{Others}
use Rattle.loads.specs.declared.peaks.Peak.{Peak}
use Rattle.loads.specs.Held.{line_of, Places}
use Rattle.loads.specs.Axles.{Fits, other_place, Under, Before, OtherIs, OthersAre}
use Rattle.loads.specs.Peaks.{AxlesAt, Leads}
use Rattle.loads.proofs.Counts.{rising}

-- no station is past the last one
pub at_most_last : (n : ℕ) (zs : List ℕ) → Places n zs → (i : ℕ) → i < n → get_or zs i 0 ≤ get_or zs (n - 1) 0
at_most_last n zs p i h = place_up (line_of n zs []) (rising n zs [] p) i (n - 1) (omega arith) (omega arith)

-- the other axle stands on the deck
pub on_deck : (n : ℕ) (zs : List ℕ) → Places n zs → (a : Axle) (i z : ℕ) → i < n → Fits a (get_or zs i 0) (get_or zs (n - 1) 0) → z ≡ other_place a (get_or zs i 0) → z ≤ get_or zs (n - 1) 0
on_deck n zs p Rear i z h f e = omega arith
on_deck n zs p Second i z h f e = omega (arith, at_most_last n zs p i h)

-- from one station to the next
pub next_station : (n : ℕ) (zs : List ℕ) → Places n zs → (a : Axle) (i : ℕ) (x : Option Other) → OtherIs n zs a i x → i + 1 < n → Before n zs a (i + 1) x
next_station n zs p a i x h l = record { held = λ o e. (h.found o e).2; behind = λ o e. up a o.place (h.found o e).1 }
  where
    up : (b : Axle) (z : ℕ) → z ≡ other_place b (get_or zs i 0) → z ≤ other_place b (get_or zs (i + 1) 0)
    up Rear z e = omega (arith, p.rises i l)
    up Second z e = omega (arith, p.rises i l)

-- where the search begins
pub begins : (n : ℕ) (zs : List ℕ) → Places n zs → (a : Axle) (i : ℕ) (x : Option Other) → Before n zs a i x → (k : ℕ) → MatchOption x (k ≡ 0) (λ o. k ≡ o.segment) → (k + 1 < n) × (get_or zs k 0 ≤ other_place a (get_or zs i 0))
begins n zs p a i None b k h = (omega (arith, p.some), omega (arith, p.begins, ap (λ (j : ℕ). get_or zs j 0) h))
begins n zs p a i (Some o) b k h =
    let u = b.held o refl in
    (omega (arith, u.inside), omega (arith, u.above, b.behind o refl, ap (λ (j : ℕ). get_or zs j 0) h))

apart : (a : Axle) (y z e : ℕ) → Fits a y e → z ≡ other_place a y → AxlesAt y z
apart Rear y z e f h = inl h
apart Second y z e f h = inr (omega arith)

-- the place of the rear axle
abbrev pub rear_place : Axle → ℕ → ℕ
rear_place Rear z = z
rear_place Second z = z - 1200

module _ (n : ℕ) (zs : List ℕ) (a : Axle) (i : ℕ) (x : Option Other) (h : OtherIs n zs a i x) where
  pub stands : (o : Other) → x ≡ Some o → AxlesAt (get_or zs i 0) o.place
  stands o e = apart a (get_or zs i 0) o.place (get_or zs (n - 1) 0) (h.found o e).0 (h.found o e).1

  pub segment : (o : Other) → x ≡ Some o → Under n zs o.segment o.place
  segment o e = (h.found o e).2

  rear_is : (o : Other) → x ≡ Some o → min (get_or zs i 0) o.place ≡ rear_place a (get_or zs i 0)
  rear_is o e = rear a (get_or zs i 0) o.place (h.found o e).1
    where
      rear : (b : Axle) (y z : ℕ) → z ≡ other_place b y → min y z ≡ rear_place b y
      rear Rear y z f = omega arith
      rear Second y z f = omega arith

  -- each tandem that stands was tried
  pub led : (d : Line) (r : Option Peak) → ((o : Other) → x ≡ Some o → Leads d r (min (get_or zs i 0) o.place)) → Fits a (get_or zs i 0) (get_or zs (n - 1) 0) → Leads d r (rear_place a (get_or zs i 0))
  led d r t f = cases x refl
    where
      cases : (y : Option Other) → x ≡ y → Leads d r (rear_place a (get_or zs i 0))
      cases None e = absurd (h.missing e f)
      cases (Some o) e = subst (λ (c : ℕ). Leads d r c) (rear_is o e) (t o e)

-- among the stations that there are
pub held : (n : ℕ) (zs : List ℕ) (os : List Others) → ((i : ℕ) (o : Others) → i < n → OthersAre n zs i (get_or os i o)) → (i : ℕ) (o : Others) → i < n → OthersAre n zs i (get_or (take n os) i o)
held n zs os h i o k = subst (λ (x : Others). OthersAre n zs i x) (sym (get_or-take n os i o k)) (h i o k)
