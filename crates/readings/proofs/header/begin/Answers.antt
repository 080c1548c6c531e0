-- The sum that the code makes is the number of slices.
use Rattle.std.proofs.Common.{◌≡◌, ◌-◌, length, get_or, ℤ, pos, ◌+ℤ◌, subst, arith, w32, to_z, of_z}
use borrow.Author.Differences.{ints}
use Rattle.measured.specs.Judged.{Begun, header_judged}
use Rattle.surface.specs.Verdict.{Granted}
use Rattle.readings.specs.Runs.{slices_of}
use Rattle.readings.proofs.header.begin.Goals as goal

pub returns : goal.returns
returns c =
    let vs = c.args.paths.now in
    let a = get_or vs 0 (pos 0) in
    let b = get_or vs (length vs - 1) (pos 0) in
    let at : ℤ = to_z w32 (of_z w32 (to_z w32 (of_z w32 (to_z w32 (of_z w32 a) +ℤ to_z w32 (of_z w32 b))) +ℤ pos 1)) in
    let same : at ≡ slices_of vs = omega (arith, ints) in
    subst (λ (m : ℤ). Granted (header_judged m vs) c.new.result (λ d. Begun m vs d.layout.slices d.layout.count d.layout.paths d.filled)) same c.new.ensures
