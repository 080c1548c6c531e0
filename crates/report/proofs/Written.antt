-- A text is the same where its cells are.
use Rattle.std.proofs.Common.{◌≡◌, ℕ, List, ap, ◌∙◌}
use Rattle.report.specs.Lines.{row_text}

pub same_row : {n n' l l' p p' : List ℕ} (f : ℕ) → n ≡ n' → l ≡ l' → p ≡ p' → row_text n f l p ≡ row_text n' f l' p'
same_row {n} {n'} {l} {l'} {p} {p'} f en el ep =
    ap (λ (x : List ℕ). row_text x f l p) en ∙ ap (λ (x : List ℕ). row_text n' f x p) el ∙ ap (λ (x : List ℕ). row_text n' f l' x) ep
