-- A table by the format's rules: records one after the other, each ended by CR LF, which the last may lack.
use Rattle.std.specs.Prelude.{◌≡◌, ℕ, ◌<◌, List, [], ◌∷◌, ◌++◌, length}
use Rattle.table.specs.Cells.{Cell}
use Rattle.table.specs.Lines.{joined, Line}

-- after the end of a record, where ys is left, the next one begins with `rest`: past CR LF, or nowhere at the end
pub data Passes (ys rest : List ℕ) : Type 0 where
  at_end : ys ≡ [] → rest ≡ [] → Passes ys rest
  at_line : ys ≡ 13 ∷ 10 ∷ rest → Passes ys rest

-- the records rs stand at the front of xs, one after the other, and `rest` is left; a record begins only where text is left
pub data ReadUpTo : List (List Cell) → List ℕ → List ℕ → Type 0 where
  none : {xs : List ℕ} → ReadUpTo [] xs xs
  next : {rs : List (List Cell)} {xs ys : List ℕ} (cs : List Cell) (zs rest : List ℕ)
      → ReadUpTo rs xs ys → 0 < length ys → Line cs ys zs → Passes zs rest → ReadUpTo (rs ++ (cs ∷ [])) xs rest

-- the bytes of records with CR LF after each
abbrev pub lines : List (List Cell) → List ℕ
lines [] = []
lines (r ∷ rs) = joined r ++ (13 ∷ 10 ∷ lines rs)

-- the records, rejoined by the format's rules, are the text: with CR LF after each, or after each but the last
pub data Rejoined (rs : List (List Cell)) (xs : List ℕ) : Type 0 where
  closed : xs ≡ lines rs → Rejoined rs xs
  open_ended : xs ++ (13 ∷ 10 ∷ []) ≡ lines rs → Rejoined rs xs

-- a table that was read to its end is its records rejoined
abbrev pub ReadingRejoins : Type 0
ReadingRejoins = (rs : List (List Cell)) (xs : List ℕ) → ReadUpTo rs xs [] → Rejoined rs xs
