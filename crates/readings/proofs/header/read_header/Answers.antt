use Rattle.std.proofs.Common.{◌≡◌, ℕ, [], length, refl, ap, arith}
use Rattle.std.proofs.lemmas.List.{nil_from_length}
use Rattle.std.proofs.lemmas.Result.{err_from_is_err_and}
use Rattle.surface.specs.declared.fault.SurfaceFault.TheVariants.{Counts}
use Rattle.table.proofs.Chains.{line_stands}
use Rattle.table.specs.Numbers.{Writes}
use Rattle.records.specs.Numbers.{Taken, Missed}
use Rattle.records.proofs.Progress.{written_length, taken_whole}
use Rattle.readings.specs.Runs.{slices_of}
use Rattle.readings.proofs.Headers.{split, line_few, refused_word, refused_number, refused_paths, opened, of_others, others_count, header_many, written_small}
use Rattle.table.specs.Lines.{FieldRead}
use Rattle.readings.proofs.header.read_header.Goals as goal
use Rattle.readings.proofs.header.read_header.Goals.{In_ok-word}

-- the first field, at the beginning of the input
word : (c : goal.In_ok-word) → FieldRead c.args.input.now 0 1 1 c.in_ok-word.word
word c = rw c.start-start.ensures at c.in_ok-word.ensures

pub returns-in_err-word : goal.returns-in_err-word
returns-in_err-word c = λ cs ys l e. let m = rw c.start-start.ensures at c.in_err-word.ensures in absurd (line_stands cs l m.1)

pub returns-then-not-is_word : goal.returns-then-not-is_word
returns-then-not-is_word c = λ cs ys l e.
    let s = split cs l (word (goal.at.returns-then-not-is_word c).In_ok-word) in
    let told = rw c.start-start.ensures at c.fault.ensures in
    rw told (refused_word s (λ h. let z = c.if-not-is_word.ensures.1 h in let n : ◌≡◌ {A = ℕ} 0 1 = cc in omega arith))

pub returns-then-paths-eq0 : goal.returns-then-paths-eq0
returns-then-paths-eq0 c = λ cs ys l e.
    let s = split cs l (word (goal.at.returns-then-paths-eq0 c).In_ok-word) in
    let none : s.others ≡ [] = nil_from_length s.others (omega (arith, ap length s.splits, l.some)) in
    refused_paths s (Counts 1 0) [] (c.if-not-is_word.ensures.0 refl) (rw none tt) refl

pub read_numbers-requires : goal.read_numbers-requires
read_numbers-requires c = let few = line_few c.requires.0.1.1.0 in (omega arith, (omega (arith, few, c.requires.0.1.1.1), omega arith))

pub returns-in_err-numbers : goal.returns-in_err-numbers
returns-in_err-numbers c = λ cs ys l e.
    let s = split cs l (word (goal.at.returns-in_err-numbers c).In_ok-word) in
    let p = err_from_is_err_and c.from_residual-in_err-numbers.result c.from_residual-in_err-numbers.ensures.1 in
    let told = rw (c.moved_to.ensures, c.start-start.ensures) at c.in_err-numbers.ensures.numbers in
    let m = of_others s {P = λ ds. Missed Writes ds 1 2 c.in_err-numbers.field-0.0} c.args.fields e c.if-paths-eq0.false told in
    rw (p.1, p.2) (refused_number s c.in_err-numbers.field-0.0 (c.if-not-is_word.ensures.0 refl) m)

pub returns-then-paths-gt-MOST_PATHS : goal.returns-then-paths-gt-MOST_PATHS
returns-then-paths-gt-MOST_PATHS c = λ cs ys l e.
    let s = split cs l (word (goal.at.returns-then-paths-gt-MOST_PATHS c).In_ok-word) in
    let told = rw (c.moved_to.ensures, c.start-start.ensures) at c.in_ok-numbers.ensures.numbers in
    let t = of_others s {P = λ ds. Taken Writes 8 ds c.in_ok-numbers.numbers.items} c.args.fields e c.if-paths-eq0.false told in
    let n = written_length Writes s.others t.numbers t.written in
    let m = others_count s c.args.fields e in
    refused_paths s (Counts 1 0) t.numbers (c.if-not-is_word.ensures.0 refl) t.written (header_many (slices_of t.numbers) t.numbers (omega arith))

pub begin-requires : goal.begin-requires
begin-requires c =
    let q = c.requires.0 in
    let s = split q.0 q.1.1.0 (word (goal.at.begin-requires c).In_ok-word) in
    let e = q.1.1.1 in
    let told = rw (c.moved_to.ensures, c.start-start.ensures) at c.in_ok-numbers.ensures.numbers in
    let t = of_others s {P = λ ds. Taken Writes 8 ds c.in_ok-numbers.numbers.items} c.args.fields e c.if-paths-eq0.false told in
    let m = others_count s c.args.fields e in
    let w = taken_whole t (omega arith) in
    let n = written_length Writes s.others c.in_ok-numbers.numbers.items w in
    let small = written_small s.others c.in_ok-numbers.numbers.items w in
    rw c.as_slice.ensures.value (record { count = (omega arith, omega arith); small = (small 0, small _) })

pub returns : goal.returns
returns c = λ cs ys l e.
    let s = split cs l (word (goal.at.returns c).In_ok-word) in
    let told = rw (c.moved_to.ensures, c.start-start.ensures) at c.in_ok-numbers.ensures.numbers in
    let t = of_others s {P = λ ds. Taken Writes 8 ds c.in_ok-numbers.numbers.items} c.args.fields e c.if-paths-eq0.false told in
    let m = others_count s c.args.fields e in
    let w = taken_whole t (omega arith) in
    opened s c.begin.result c.in_ok-numbers.numbers.items (rw c.as_slice.ensures.value at c.begin.ensures) (c.if-not-is_word.ensures.0 refl) w
