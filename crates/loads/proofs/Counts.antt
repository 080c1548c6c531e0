-- What a row counts for, from the numbers as the code has them.
use Rattle.std.proofs.Common.{◌≡◌, ℕ, suc, ◌+◌, ◌-◌, ◌<◌, ◌≤◌, List, get_or, ℤ, pos, nat_abs, ap, ap₂, arith, w32, to_z, of_z}
use Rattle.std.proofs.lemmas.Int.{ints}
use Rattle.lines.specs.Segments.{rounded}
use Rattle.lines.specs.Lines.{Rising}
use Rattle.lines.specs.Areas.{area_to}
use Rattle.loads.specs.Held.{line_of, Places, Values}

pub rising : (n : ℕ) (zs : List ℕ) (ws : List ℤ) → Places n zs → Rising (line_of n zs ws)
rising n zs ws p = record { some = p.some; begins = p.begins; rises = p.rises }

-- what is written is what is read
pub back : (v : ℤ) → nat_abs v ≤ 400000 → to_z w32 (of_z w32 v) ≡ v
back v h = omega (arith, ints)

-- one segment more
pub one_more : (n : ℕ) (zs : List ℕ) (ws : List ℤ) → Values 400000 n ws → (k t r : ℕ) → k + 1 < n
    → r ≡ rounded (get_or zs (k + 1) 0 - get_or zs k 0) (to_z w32 (of_z w32 (get_or ws k (pos 0)))) (to_z w32 (of_z w32 (get_or ws (k + 1) (pos 0))))
    → t ≡ area_to (line_of n zs ws) k → t + r ≡ area_to (line_of n zs ws) (k + 1)
one_more n zs ws v k t r h e f =
    let b₁ = back (get_or ws k (pos 0)) (v k (omega arith)) in
    let b₂ = back (get_or ws (k + 1) (pos 0)) (v (k + 1) h) in
    let q = ap₂ (λ (x y : ℤ). rounded (get_or zs (k + 1) 0 - get_or zs k 0) x y) b₁ b₂ in
    let k₁ : k + 1 ≡ suc k = omega arith in
    let m = ap (area_to (line_of n zs ws)) k₁ in
    omega arith
