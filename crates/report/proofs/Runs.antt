-- The lines of a run, from what is left of both lists.
use Rattle.std.proofs.Common.{◌≡◌, ℕ, List, [], ◌∷◌, ◌++◌, length, append_assoc, arith}
use Rattle.std.proofs.lemmas.List.{append-nil}
use Rattle.card.specs.declared.answers.Answer.{Answer}
use Rattle.card.specs.declared.calls.Call.{Call}
use Rattle.report.specs.Lines.{ToldLine, ToldLines}
use Rattle.report.specs.Lines as lines

-- the lines of what is left of both lists, after this text, are all the lines
abbrev pub Completes : List Call → List Answer → List Call → List Answer → List ℕ → Type 0
Completes calls answers left_calls left_answers text = (rest : List ℕ) → ToldLines left_calls left_answers rest → ToldLines calls answers (text ++ rest)

module _ (calls : List Call) (answers : List Answer) where
  pub completes_more : (c : Call) (cs : List Call) (a : Answer) (ans : List Answer) (text line : List ℕ) → ToldLine c a line → Completes calls answers (c ∷ cs) (a ∷ ans) text → Completes calls answers cs ans (text ++ line)
  completes_more c cs a ans text line told before rest left = rw append_assoc (before (line ++ rest) (lines.then_told c a cs ans line rest told left))

  pub no_more_calls : (cs : List Call) (ans : List Answer) (text : List ℕ) → length cs ≡ 0 → Completes calls answers cs ans text → ToldLines calls answers text
  no_more_calls [] ans text e whole = rw append-nil at (whole [] (lines.no_more_calls ans))
  no_more_calls (c ∷ cs) ans text e whole = absurd (omega arith)

  pub no_more_answers : (cs : List Call) (ans : List Answer) (text : List ℕ) → length ans ≡ 0 → Completes calls answers cs ans text → ToldLines calls answers text
  no_more_answers cs [] text e whole = rw append-nil at (whole [] (lines.no_more_answers cs))
  no_more_answers cs (a ∷ ans) text e whole = absurd (omega arith)
