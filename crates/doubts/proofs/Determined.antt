-- One figure, one winner and one tandem of each lane start.
use Rattle.std.proofs.Common.{◌≡◌, ℕ, suc, ◌+◌, ◌*◌, false, Option, sym, ap, ◌∙◌, ap₂, subst₂, arith}
use Rattle.algebra.specs.Sums.{total}
use Rattle.algebra.proofs.Sums.{total_cong}
use Rattle.model.specs.Lanes.{breadth}
use Rattle.model.specs.declared.tandems.Tandem.{Tandem}
use Rattle.placing.specs.Kind.{Kind, Laws, Counts}
use Rattle.lines.specs.Areas.{area_of}
use Rattle.lines.proofs.Unique.{one_tandem}
use Rattle.statement.specs.Lanes.{Starts, Laid}
use Rattle.statement.specs.Effects.{Setting, lane_count, lane_line, on_deck, tandem_share, uniform_share, Tandems, rounded_effect, kerb_count}
use Rattle.statement.specs.Winners.{lanes_worth, Winner}
use Rattle.statement.proofs.Wins.{winner_once}
use Rattle.doubts.specs.Determined.{OneFigure, OneWinner, OneTandem}

pub same_tandem : OneTandem
same_tandem g tandems others known other x h =
    let e = one_tandem (lane_line g x) _ _ _ _ (known x h) (other x h) in
    ap₂ (λ (t : ℕ) (p : Option ℕ). record { t = t; place = p }) e.0 e.1

module _ (g : Setting) (tandems others : ℕ → Tandem) (known : Tandems g tandems) (other : Tandems g others) where
  same_rounded : (starts : Starts) → Laid g.kerbs starts → rounded_effect g tandems starts ≡ rounded_effect g others starts
  same_rounded starts laid =
      ap (λ n. n + total (breadth g.kerbs) (λ j. uniform_share g starts j * area_of g.surface (on_deck g j))) (total_cong (lane_count g) _ _ (λ i h.
      ap (λ (t : Tandem). tandem_share g (suc i) * t.t) (same_tandem g tandems others known other (starts (suc i)) (laid.inside (suc i) (omega arith, omega arith)))))

  module _ {W : Type 0} (K : Kind W) (made : ℕ → ℕ → W) where
    same_worth : (starts : Starts) → Laid g.kerbs starts → lanes_worth K made g others starts ≡ lanes_worth K made g tandems starts
    same_worth starts laid = ap (λ e. made e (kerb_count g starts)) (sym (same_rounded starts laid))

    -- a winner by the one is a winner by the other
    wins_too : (starts : Starts) → Winner K made g others starts → Winner K made g tandems starts
    wins_too starts w = record {
      laid = w.laid;
      greatest = λ rivals l. subst₂ (λ (a b : W). K.below a b ≡ false) (same_worth starts w.laid) (same_worth rivals l) (w.greatest rivals l);
      first = λ rivals l e. w.first rivals l (same_worth rivals l ∙ e ∙ sym (same_worth starts w.laid));
    }

pub one_figure : {W V : Type 0} (K : Kind W) (made : ℕ → ℕ → W) → Counts K made → (L : Kind V) (formed : ℕ → ℕ → V) → Counts L formed → OneFigure K made L formed
one_figure K made counts L formed counted g figure other tandems others owners shown t u =
    let up = counts.led _ _ _ _ (t.winner.greatest u.starts u.winner.laid) in
    let down = counted.led _ _ _ _ (u.winner.greatest t.starts t.winner.laid) in
    let e = same_rounded g tandems others t.known u.known t.starts t.winner.laid in
    let f = same_rounded g tandems others t.known u.known u.starts u.winner.laid in
    let a = t.attained in
    let b = u.attained in
    omega (arith, up, down, e, f, a, b)

pub one_winner : {W : Type 0} (K : Kind W) (made : ℕ → ℕ → W) → Laws K → Counts K made → OneWinner K made
one_winner K made laws counts g figure other tandems others owners shown t u =
    t.shown ∙ winner_once K made laws counts g tandems t.starts u.starts t.winner (wins_too g tandems others t.known u.known K made u.starts u.winner) ∙ sym u.shown
