-- A run of a whole list of calls keeps the promise.
use Rattle.std.proofs.Common.{◌≡◌, ℕ, ◌≤◌, Bool, true, leb, List, length, None, Ok, Option, sym, ap, ◌∙◌, subst, arith}
use Rattle.std.proofs.lemmas.List.{take_all}
use Rattle.std.proofs.lemmas.Bool.Decides.{nat_tests}
use Rattle.surface.specs.Shape.{Shape, Lawful}
use Rattle.model.specs.declared.lanes.Carriageway.{Carriageway}
use Rattle.card.specs.Bounds.{kerbs_fit}
use Rattle.card.specs.Steps.{card_after, opening, unless}
use Rattle.card.specs.declared.answers.Answer.{Answer}
use Rattle.card.specs.declared.calls.Call.{Call}
use Rattle.card.specs.declared.entries.Card.{Card}
use Rattle.card.specs.declared.fault.JobFault.TheVariants.{Kerbs}
use Rattle.statement.specs.Runs.{Met, Replayed, duty_of, duty_told}
use Rattle.statement.proofs.Runs.{fits_after, slices_after, whole_from_met}
use Rattle.rating.proofs.Runs.{Sofar, nth_low}

-- kerbs that are in force lie on the deck
pub still_fits : (s : Shape) (number : ℕ) (kerbs : Carriageway) (ks : List Call) (c : Card) → kerbs_fit s.slices kerbs ≡ true → c ≡ card_after (opening number s.slices kerbs) ks → kerbs_fit s.slices c.kerbs ≡ true
still_fits s number kerbs ks c fit e =
    let c₀ : Card = opening number s.slices kerbs in
    let after = fits_after c₀ fit ks in
    let same = slices_after c₀ ks in
    ap (λ (x : Card). kerbs_fit s.slices x.kerbs) e ∙ ap (λ (n : ℕ). kerbs_fit n (card_after c₀ ks).kerbs) (sym same) ∙ after

module _ {D : Type 0} (number_in serial_in : D → ℕ) (s : Shape) (lawful : Lawful s) (number : ℕ) (kerbs : Carriageway) (calls : List Call) (before after : List Answer) where
  c₀ : Card
  c₀ = opening number s.slices kerbs

  met : (c : Card) → kerbs_fit s.slices kerbs ≡ true → Sofar s (opening number s.slices kerbs) c calls before after (length calls) → Met s number kerbs calls after
  met c fit f = record {
    opened = ap (λ (b : Bool). unless b Kerbs None) fit;
    each = λ i call is. let a = f.each i call (nth_low calls i call is) is in (a.answer, a.there, a.told);
  }

  pub replayed : (c : Card) (d : Option D) → length calls ≤ length before → kerbs_fit s.slices kerbs ≡ true → Sofar s (opening number s.slices kerbs) c calls before after (length calls)
      → duty_told number_in serial_in d ≡ duty_of c → Replayed number_in serial_in s number kerbs calls before after (Ok d)
  replayed c d room fit f duty = record {
    judged = let l : leb (length calls) (length before) ≡ true = grind (arith, nat_tests) in rw (l, fit);
    refused = λ e h. let z : ◌≡◌ {A = ℕ} 0 1 = cc in absurd (omega arith);
    left = λ d' h.
        let same : d ≡ d' = cc in
        subst (λ (x : Option D). duty_told number_in serial_in x ≡ duty_of (card_after (opening number s.slices kerbs) calls)) same
        (duty ∙ ap duty_of (f.card ∙ ap (card_after (opening number s.slices kerbs)) (take_all (length calls) calls (omega arith))));
    beyond = f.beyond;
    whole = λ d' h. whole_from_met s lawful number kerbs calls after (met c fit f);
  }
