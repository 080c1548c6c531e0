-- The theorem's parts, from the lemmas on fields, records and numbers.
use Rattle.table.proofs.Cuts.{stands_unique}
use Rattle.table.proofs.Chains.{line_unique, broken_unique, line_not_broken}
use Rattle.table.proofs.Numerals.{writes_unique}
use Rattle.table.proofs.unique.reading_is_unique.Goals as goal

pub returns : goal.returns
returns c = record {
  of_field = λ t u xs ys zs a b. stands_unique t u a b;
  of_record = λ ts us xs ys zs a b. line_unique ts us a b;
  of_fault = λ xs f g a b. broken_unique a b;
  never_both = λ ts xs ys f l b. line_not_broken ts l b;
  of_number = λ bs v w a b. writes_unique a b;
}
