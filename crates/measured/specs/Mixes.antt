-- The ordinate of every slice is in the range of the ordinates at the paths, so that filled rows make a lawful surface.
use Rattle.std.specs.Prelude.{◌≡◌, ℕ, ◌+◌, ◌-◌, ◌*◌, ◌<◌, ◌≤◌, ltb, List, length, take, drop, ℤ, pos, ◌+ℤ◌, ◌*ℤ◌, ◌==◌, slice_index, slice_index_or, unsigned_abs}
use Rattle.std.proofs.Common.{ap, arith}
use Rattle.std.proofs.lemmas.List.{length-take, get_or-take}
use Rattle.std.proofs.lemmas.List.Sums.{prefix_len_passes, prefix_len_stops, prefix_len-le-length, prefix_len-drop_all, prefix_len-drop_no, prefix_len-drop_yes}
use Rattle.std.proofs.lemmas.Bool.{lt-ltb, le-ltb, ltb-true, ltb-false, eqb-false, cond_both}
use Rattle.std.specs.List.{prefix_len}
use Rattle.surface.specs.Shape.{Lawful}
use Rattle.surface.proofs.Quotients.{quotient_within, mix_within}
use Rattle.measured.specs.Laid.{Laid}
use Rattle.measured.specs.Rows.{Filled, Ranged, rows_shape, ordinates_of}
use Rattle.measured.specs.Spread.{between, before, spread, spread_past}
use Rattle.measured.specs.declared.row.Row.{Row}

pub between_within : (p : ℕ) (v : ℤ) (q : ℕ) (u : ℤ) (j b : ℕ) → p < q → p ≤ j → j ≤ q → unsigned_abs v ≤ b → unsigned_abs u ≤ b → unsigned_abs (between p v q u j) ≤ b
between_within p v q u j b lt lo hi hv hu =
    let m = mix_within v u (q - j) (j - p) b hv hu in
    let e : b * (q - p) ≡ b * ((q - j) + (j - p)) = ap (λ n. b * n) (omega arith) in
    quotient_within (v *ℤ pos (q - j) +ℤ u *ℤ pos (j - p)) (q - p) b (omega arith) (omega arith)

-- ---- the paths before a slice
-- each path that is counted lies before j
pub under : (j : ℕ) (xs : List ℕ) (k : ℕ) → k < prefix_len (λ p. ltb p j) xs → slice_index xs k < j
under j xs k h = ltb-true (slice_index xs k) j (prefix_len_passes (λ p. ltb p j) xs k 0 h)

-- the next one does not
pub reached : (j : ℕ) (xs : List ℕ) → prefix_len (λ p. ltb p j) xs < length xs → j ≤ slice_index xs (prefix_len (λ p. ltb p j) xs)
reached j xs h = ltb-false (slice_index xs (prefix_len (λ p. ltb p j) xs)) j (prefix_len_stops (λ p. ltb p j) xs 0 h)

-- one path more, the first that does not lie before j, and none left
pub before_more : (m : ℕ) (ps : List ℕ) (j i : ℕ) → i < m → m ≤ length ps → slice_index ps i < j → prefix_len (λ p. ltb p j) (drop i (take m ps)) ≡ 1 + prefix_len (λ p. ltb p j) (drop (i + 1) (take m ps))
before_more m ps j i h few lt =
    let k : i < length (take m ps) = simp length-take (omega arith) in
    prefix_len-drop_yes (λ p. ltb p j) (take m ps) i 0 k (simp get_or-take (lt-ltb (slice_index ps i) j lt))

pub before_stops : (m : ℕ) (ps : List ℕ) (j i : ℕ) → i < m → m ≤ length ps → j ≤ slice_index ps i → prefix_len (λ p. ltb p j) (drop i (take m ps)) ≡ 0
before_stops m ps j i h few le =
    let k : i < length (take m ps) = simp length-take (omega arith) in
    prefix_len-drop_no (λ p. ltb p j) (take m ps) i 0 k (simp get_or-take (le-ltb (slice_index ps i) j le))

pub before_all : (m : ℕ) (ps : List ℕ) (j i : ℕ) → m ≤ i → prefix_len (λ p. ltb p j) (drop i (take m ps)) ≡ 0
before_all m ps j i h = prefix_len-drop_all (λ p. ltb p j) (take m ps) i (simp length-take (omega arith))

past_within : (i n m : ℕ) (ps : List ℕ) (vs : List ℤ) (j b : ℕ) → Laid n m ps → ((k : ℕ) → k < m → unsigned_abs (slice_index_or vs k (pos 0)) ≤ b) → i ≤ m → (0 < i → slice_index ps (i - 1) < j) → (i < m → j ≤ slice_index ps i) → unsigned_abs (spread_past i m ps vs j) ≤ b
past_within i n m ps vs j b w h few left right =
    cond_both (i == 0) _ _ (λ z. unsigned_abs z ≤ b) (λ e. h 0 w.0.2) (λ some.
    cond_both (i == m) _ _ (λ z. unsigned_abs z ≤ b) (λ e. h (m - 1) (omega arith)) (λ more.
    let lo = eqb-false i 0 some in
    let hi = eqb-false i m more in
    let l = left (omega arith) in
    let r = right (omega arith) in
    between_within (slice_index ps (i - 1)) (slice_index_or vs (i - 1) (pos 0)) (slice_index ps i) (slice_index_or vs i (pos 0)) j b (omega arith) (omega arith) r (h (i - 1) (omega arith)) (h i (omega arith))))

pub spread_within : (n m : ℕ) (ps : List ℕ) (vs : List ℤ) (j b : ℕ) → Laid n m ps → ((i : ℕ) → i < m → unsigned_abs (slice_index_or vs i (pos 0)) ≤ b) → unsigned_abs (spread m ps vs j) ≤ b
spread_within n m ps vs j b w h =
    let long : length (take m ps) ≡ m = simp length-take (omega arith) in
    let few = prefix_len-le-length (λ p. ltb p j) (take m ps) in
    past_within (before m ps j) n m ps vs j b w h (omega arith)
    (λ some. let k : before m ps j - 1 < m = omega arith in simp get_or-take at (under j (take m ps) (before m ps j - 1) (omega arith)))
    (λ more. simp get_or-take at (reached j (take m ps) (omega arith)))

pub rows_lawful : (n m : ℕ) (ps : List ℕ) (t : ℕ) (rs : List Row) → Laid n m ps → Filled t rs → Ranged m t rs → Lawful (rows_shape n m ps t rs)
rows_lawful n m ps t rs l f r = record {
  wide = l.0.0;
  narrow = l.0.1;
  some = f.0.0;
  few = f.0.1;
  begins = f.0.3;
  rises = f.1;
  ends = f.2;
  within = λ j k h i. spread_within n m ps (ordinates_of rs k) j 100000 l (λ p q. r p k q i);
}
