-- The bytes passed are digits, and their value is held.
use Rattle.std.proofs.Common.{◌≡◌, take}
use Rattle.std.specs.List.{AllByRecursion}
use Rattle.table.specs.Numbers.{Digit, value}
use Rattle.table.proofs.number.digits.Given as goal

abbrev pub invariant-loop-byte : goal.invariant-loop-byte
invariant-loop-byte l = AllByRecursion Digit (take l.byte-index l.bytes) × (l.value ≡ value (take l.byte-index l.bytes))
