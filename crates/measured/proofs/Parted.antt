-- The paths before a slice stand before the others, since paths rise.
use Rattle.std.proofs.Common.{◌≡◌, ℕ, ◌<◌, ltb, List, get_or, take, arith}
use Rattle.std.proofs.lemmas.Bool.{ltb-true, lt-ltb}
use Rattle.std.proofs.lemmas.List.{length-take-le, get_or-take, get_or_default}
use Rattle.std.specs.List.Sorted.{IsPartitionedBy}
use Rattle.measured.specs.Laid.{Laid}
use Rattle.measured.proofs.Spreading.{ascending}

pub parted : (n m : ℕ) (ps : List ℕ) → Laid n m ps → (j : ℕ) → IsPartitionedBy (λ p. ltb p j) (take m ps)
parted n m ps w j i k d le h e =
    let long = length-take-le m ps w.0.4 in
    let i_low : i < m = omega arith in
    let k_low : k < m = omega arith in
    let a : get_or (take m ps) i d ≡ get_or ps i 0 = simp get_or-take (get_or_default ps i d 0 (omega arith)) in
    let b : get_or (take m ps) k d ≡ get_or ps k 0 = simp get_or-take (get_or_default ps k d 0 (omega arith)) in
    let up = ascending n m ps w i k le (omega arith) in
    let under = ltb-true (get_or (take m ps) k d) j e in
    lt-ltb (get_or (take m ps) i d) j (omega arith)
