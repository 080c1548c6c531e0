-- The loads that are made are those over the lists.
use Rattle.std.proofs.Common.{◌≡◌, ℕ, ◌+◌, ◌*◌, List, take, drop, ap, subst}
use Rattle.placing.specs.Kind.{Kind}
use Rattle.placing.specs.Placing.{Filled}
use Rattle.placing.specs.Loaded.{Loads, loaded, Rated}
use Rattle.figures.proofs.placed.place_listed.Goals as goal

-- the same loads and lanes are rated the same
rated_over : {W : Type 0} {K : Kind W} {made : ℕ → ℕ → W} {l k : Loads} {m n o p : ℕ} {w : W} (owners : List ℕ) → l ≡ k → m ≡ n → o ≡ p
    → Rated K made l m o w (take l.slices owners) → Rated K made k n p w (take k.slices owners)
rated_over {W} {K} {made} {l} {k} {m} {n} {o} {p} {w} owners e f g h =
    subst (λ (i : Loads). Rated K made i n p w (take i.slices owners)) e
    (subst (λ (i : ℕ). Rated K made l i p w (take l.slices owners)) f (subst (λ (i : ℕ). Rated K made l m i w (take l.slices owners)) g h))

pub returns : goal.returns
returns g c =
    let h = c.place_loads.ensures in
    let made = c.new-loads.ensures in
    let slices = ap (λ (l : Loads). l.slices) made.loads in
    let bests = c.place_loads.new.bests in
    let owners = c.place_loads.new.owners in
    record {
      filled = subst (λ l. Filled g.W.Worth.kind (loaded g.W.Worth.made l) 0 bests) made.loads h.filled;
      bests_beyond = subst (λ n. drop (24 * (n + 1)) bests ≡ drop (24 * (n + 1)) c.args.bests.now) slices h.bests_beyond;
      rated = rated_over owners made.loads made.numbered made.others h.rated;
      owners_beyond = subst (λ n. drop n owners ≡ drop n c.args.owners.now) slices h.owners_beyond;
    }
