-- Seven digits and a minus fit 32 bits.
use Rattle.std.proofs.Common.{pos, ◌-ℤ◌, ◌∙◌, rules, w32, to_z}
use Rattle.std.proofs.lemmas.Int.{to_z-of_z}
use Rattle.table.specs.Numbers.{unsigned}
use Rattle.table.proofs.Numerals.{numeral_lt, fits_pos, fits_cast_neg, cast_pos, cast_neg, writes_minus}
use Rattle.table.proofs.number.I32Number.of_bytes.Goals as goal
use Rattle.table.proofs.number.I32Number.of_bytes.Goals.{in_default-via-then-bytes-lt1, in_default-via-else-bytes-lt1+in_default-1}

pub overflow_cast-result : goal.overflow_cast-result
overflow_cast-result c = fits_pos _ (numeral_lt c.in_ok-size-in-45.ensures)

pub overflow_sub-result : goal.overflow_sub-result
overflow_sub-result c = fits_cast_neg _ (numeral_lt c.in_ok-size-in-45.ensures)

pub overflow_cast-result-in_default : goal.overflow_cast-result-in_default
overflow_cast-result-in_default c = fits_pos _ (numeral_lt c.in_ok-size-in_default.ensures)

pub returns-in_ok-size-in-45 : goal.returns-in_ok-size-in-45
returns-in_ok-size-in-45 c =
    let n = c.in_ok-size-in-45.size in
    let told = c.in_ok-size-in-45.ensures in
    let small = numeral_lt told in
    writes_minus c.args.bytes.now n c.in-45.len_at_least (search rules) told _
    (to_z-of_z w32 (pos 0 -ℤ to_z w32 n) (fits_cast_neg n small) ∙ cast_neg n small)

pub returns-in_ok-size-in_default : goal.returns-in_ok-size-in_default
returns-in_ok-size-in_default c =
    let told = c.in_ok-size-in_default.ensures in
    unsigned c.in_ok-size-in_default.size told (cast_pos c.in_ok-size-in_default.size (numeral_lt told))
