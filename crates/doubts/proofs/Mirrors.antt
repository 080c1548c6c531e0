-- An arrangement and its mirror, both ways.
use Rattle.std.proofs.Common.{◌≡◌, ℕ, ◌+◌, ◌-◌, ◌*◌, ◌≤◌, true, Some, None, Option, sym, refl, ap, inl, inr, ⊎_elim, arith}
use Rattle.surface.specs.Shape.{Lawful}
use Rattle.card.specs.Bounds.{kerbs_fit}
use Rattle.model.specs.Lanes.{breadth}
use Rattle.lines.specs.Segments.{Loading}
use Rattle.statement.specs.Lanes.{Numbered}
use Rattle.statement.specs.Effects.{Setting, lane_width, Place, Arrangement, Permitted}
use Rattle.statement.specs.Turns.{sides_turned, ends_turned, facing, sides_arranged, other_end, ends_arranged}
use Rattle.statement.proofs.Effects.{none_some}
use Rattle.statement.proofs.Turns.{inside_deck, sides_permitted, ends_permitted, last_same}
use Rattle.doubts.proofs.EndsExact.{ends_exact}
use Rattle.doubts.proofs.Flips.{flips}
use Rattle.doubts.proofs.SidesExact.{sides_exact}
use Rattle.doubts.specs.Mirrors.{InsideKerbs, BeforeEnd, SidesMirrored, EndsMirrored, MirrorsStand}

-- ---- side for side
module _ (g : Setting) (x : Arrangement) (inside : InsideKerbs g x) where
  across : (i : ℕ) → Numbered g.kerbs i → x.starts i + lane_width g + facing g.kerbs x.starts i ≡ breadth g.kerbs
  across i h = omega (arith, inside i h)

  sides_back : Permitted (sides_turned g) (sides_arranged g x) → Permitted g x
  sides_back p = record {
    laid = record {
      inside = inside;
      apart = λ i j h k l. ⊎_elim
          (λ (a : facing g.kerbs x.starts i + lane_width g ≤ facing g.kerbs x.starts j). inr (omega (arith, across i h, across j k)))
          (λ (a : facing g.kerbs x.starts j + lane_width g ≤ facing g.kerbs x.starts i). inl (omega (arith, across i h, across j k)))
          (p.laid.apart i j h k l);
    };
    only = λ i n l. p.only i n l;
    stands = λ i q n e. let s = p.stands i q n e in record { some = s.some; fits = s.fits };
  }

  sides : kerbs_fit g.surface.slices g.kerbs ≡ true → SidesMirrored g x
  sides fit =
      let n = g.surface.slices in
      let k = g.kerbs in
      let first : n - (n - k.first - breadth k) - breadth k ≡ k.first = omega (arith, inside_deck g fit) in
      record {
        there = sides_permitted g x;
        back = sides_back;
        kerbs = ap (λ a. record { first = a; width = k.width }) first;
        starts = λ i h. omega (arith, inside i h);
        tandems = λ i. refl;
        loads = λ j h. let e : breadth k - 1 - (breadth k - 1 - j) ≡ j = omega arith in ap x.load e;
      }

-- ---- end for end
none_from : (last : ℕ) (o : Option Place) → other_end last o ≡ None → o ≡ None
none_from last None e = refl
none_from last (Some p) e = none_some _ (sym e)

place_again : (last turned : ℕ) (p : Place) → turned ≡ last → p.num + 1200 * p.den ≤ last * p.den
    → turned * p.den - (last * p.den - p.num - 1200 * p.den) - 1200 * p.den ≡ p.num
place_again last turned p e h = let m = ap (λ z. z * p.den) e in omega arith

twice : (last turned : ℕ) (o : Option Place) → turned ≡ last → ((p : Place) → o ≡ Some p → p.num + 1200 * p.den ≤ last * p.den) → other_end turned (other_end last o) ≡ o
twice last turned None e h = refl
twice last turned (Some p) e h = ap (λ a. Some (record { num = a; den = p.den })) (place_again last turned p e (h p refl))

module _ (g : Setting) (lawful : Lawful g.surface) (x : Arrangement) (before : BeforeEnd g x) (load again : ℕ → ℕ → Loading) where
  ends_back : Permitted (ends_turned g) (ends_arranged g x load) → Permitted g x
  ends_back p =
      let last = g.surface.place (g.surface.stations - 1) in
      record {
        laid = p.laid;
        only = λ i n l. none_from last (x.tandem i) (p.only i n l);
        stands = λ i q n e. let s = p.stands i _ n (ap (other_end last) e) in record { some = s.some; fits = before i q n e };
      }

  ends : EndsMirrored g x load again
  ends = record {
    there = ends_permitted g lawful x load;
    back = ends_back;
    starts = λ i. refl;
    tandems = λ i n. twice _ _ (x.tandem i) (last_same g lawful) (λ p e. before i p n e);
  }

pub mirrors : MirrorsStand
mirrors = record { sides = λ g fit x inside. sides g x inside fit; ends = ends; sides_exact = sides_exact; flips = flips; ends_exact = ends_exact }
