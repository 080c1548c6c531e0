-- The numbers after a word are determined, and so is why they are refused.
use Rattle.std.proofs.Common.{◌≡◌, ℕ, ◌+◌, List, length, sym, refl, ap, ◌∙◌}
use Rattle.table.specs.Cells.{Cell}
use Rattle.table.specs.Numbers.{Counts}
use Rattle.table.specs.declared.fault.TextFault.{TextFault}
use Rattle.table.specs.declared.fault.TextFault.TheVariants.{Malformed}
use Rattle.records.specs.Numbers.{Written, Missed}
use Rattle.records.proofs.Progress.{written_length}
use Rattle.script.specs.Rest.{Naturals, NotNumbers}
use Rattle.script.specs.Rest as rest
use Rattle.records.proofs.Unique.{natural_one, written_unique, unwritten_unique, unwritten_not}

module _ {V : Type 0} (W : List ℕ → V → Type 0) (cs : List Cell) (r f : ℕ) where
  pub missed_unique : (d e : TextFault) → Missed W cs r f d → Missed W cs r f e → d ≡ e
  missed_unique d e a b = a.place ∙ ap (λ (i : ℕ). Malformed r (f + i)) (unwritten_unique W cs a.index b.index a.unwritten b.unwritten) ∙ sym b.place

  pub missed_not : (vs : List V) (e : TextFault) → Written W cs vs → Missed W cs r f e → ⊥
  missed_not vs e w m = unwritten_not W cs vs m.index w m.unwritten

pub naturals_unique : (ds : List Cell) (ns ms : List ℕ) → Naturals ds ns → Naturals ds ms → ns ≡ ms
naturals_unique = written_unique Counts natural_one

pub not_numbers_unique : (rec n : ℕ) (ds : List Cell) (d e : TextFault) → NotNumbers rec n ds d → NotNumbers rec n ds e → d ≡ e
not_numbers_unique rec n ds d e (rest.count h) (rest.count k) = refl
not_numbers_unique rec n ds d e (rest.count h) (rest.number _ k m) = absurd (h k)
not_numbers_unique rec n ds d e (rest.number _ h m) (rest.count k) = absurd (k h)
not_numbers_unique rec n ds d e (rest.number _ h m) (rest.number _ k o) = missed_unique Counts ds rec 2 d e m o

pub not_numbers_not : (rec n : ℕ) (ds : List Cell) (ns : List ℕ) (e : TextFault) → Naturals ds ns → length ns ≡ n → NotNumbers rec n ds e → ⊥
not_numbers_not rec n ds ns e w long (rest.count h) = h (sym (written_length Counts ds ns w) ∙ long)
not_numbers_not rec n ds ns e w long (rest.number _ h m) = missed_not Counts ds rec 2 ns e w m
