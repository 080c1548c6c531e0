-- The surface goes on until a record leads on, does not stand, or is not there.
use Rattle.std.proofs.Common.{◌≡◌, ℕ, ◌<◌, ◌≤◌, length, refl, ap, subst, arith, rules}
use Rattle.table.specs.Lines.{LineRead}
use Rattle.table.proofs.SecondPass.{read_advances}
use Rattle.script.specs.Parts.{EndsAt}
use Rattle.script.proofs.Surface.{sofar_none, sofar_more, sofar_followed, sofar_last, sofar_broken}
use Rattle.script.proofs.part.surface_end.Goals as goal
use Rattle.script.proofs.part.surface_end.Goals.{In-loop-here, In-Ok, else-here-gt0-via-then-here-gt0+else-leads_on, else-here-gt0-via-else-here-gt0}

-- a byte is left
low : (c : goal.In-loop-here) → c.loop-here.here.cursor.at < length c.args.script.bytes.now
low c = let same : length c.loop-here.here.cursor.input.now ≡ length c.args.script.bytes.now = ap length c.loop-here.invariant.0 in search rules

-- the record that begins there
line : (c : goal.In-Ok) → LineRead c.args.script.bytes.now c.loop-here.here.cursor.at c.in-Ok.line
line c = rw c.loop-here.invariant.0 at c.in-Ok.ensures

pub loop-here-init : goal.loop-here-init
loop-here-init c = rw c.start-here.ensures (refl, sofar_none c.args.script.bytes.now)

pub returns-in_default-clause-ends : goal.returns-in_default-clause-ends
returns-in_default-clause-ends c =
    let told = rw c.loop-here.invariant.0 at c.in_default.ensures in
    rw (c.end.ensures, c.loop-here.invariant.0) (sofar_broken c.loop-here.invariant.1 _ c.args.script.short told)

pub returns-then-leads_on-clause-ends : goal.returns-then-leads_on-clause-ends
returns-then-leads_on-clause-ends c =
    let l = line (goal.at.returns-then-leads_on-clause-ends c).In-Ok in
    let leads = rw c.loop-here.invariant.0 at c.if-leads_on.ensures in
    sofar_followed c.loop-here.invariant.1 (omega arith) l ((leads l.cells _ l.line).0 refl)

pub loop-here-smaller : goal.loop-here-smaller
loop-here-smaller c =
    let some = low (goal.at.loop-here-smaller c).In-loop-here in
    let on = read_advances (line (goal.at.loop-here-smaller c).In-Ok) some in
    rw c.after-here.ensures (omega arith)

pub loop-here-preserved : goal.loop-here-preserved
loop-here-preserved c =
    let l = line (goal.at.loop-here-preserved c).In-Ok in
    rw c.after-here.ensures (
      c.loop-here.invariant.0,
      sofar_more c.loop-here.invariant.1 (low (goal.at.loop-here-preserved c).In-loop-here) l (λ h leads.
          elim c.else-here-gt0.branch [
            | else-here-gt0-via-then-here-gt0+else-leads_on w ↦ (let told = rw c.loop-here.invariant.0 at w.if-leads_on.ensures in let z = (told l.cells _ l.line).1 leads in let n : ◌≡◌ {A = ℕ} 0 1 = cc in omega arith)
            | else-here-gt0-via-else-here-gt0 w ↦ omega (arith, w.if-here-gt0.false)
          ]),
    )

pub returns-clause-ends : goal.returns-clause-ends
returns-clause-ends c =
    let same : length c.loop-here.here.cursor.input.now ≡ length c.args.script.bytes.now = ap length c.loop-here.invariant.0 in
    let all : length c.args.script.bytes.now ≤ c.loop-here.here.cursor.at = search rules in
    let is : length c.args.script.bytes.now ≡ c.loop-here.here.cursor.at = omega (arith, c.loop-here.here.within) in
    subst (λ (n : ℕ). EndsAt c.args.script.bytes.now n c.loop-here.here.cursor.record) is (sofar_last c.loop-here.invariant.1 all)
