-- The surface's part of a script, record by record.
use Rattle.std.proofs.Common.{◌≡◌, ℕ, zero, suc, ◌+◌, ◌<◌, ◌≤◌, Bool, true, false, is_ok, Ok, Err, Result, MatchResult, List, [], ◌∷◌, ◌++◌, length, drop, Decides, sym, refl, ap, subst, arith}
use Rattle.std.specs.List.{AllByRecursion}
use Rattle.std.proofs.lemmas.List.{drop_all, length-drop, length_push}
use Rattle.table.specs.Cells.{Cell}
use Rattle.table.specs.Lines.{Line, LineRead, LineRefused}
use Rattle.table.specs.Tables.{ReadUpTo}
use Rattle.table.specs.Tables as tables
use Rattle.table.specs.declared.fault.TextFault.{TextFault}
use Rattle.table.specs.declared.fault.TextFault.TheVariants.{Malformed, TooLong}
use Rattle.table.specs.declared.line.LineEnd.{LineEnd}
use Rattle.table.proofs.Chains.{line_not_broken}
use Rattle.table.proofs.SecondPass.{read_advances}
use Rattle.readings.proofs.Stations.{passes}
use Rattle.script.specs.Lines.{Says}
use Rattle.script.specs.Parts.{LeadsOn, Stays, EndsAt, BeginsEdge}
use Rattle.script.specs.Words.{edge_word}
use Rattle.script.specs.Parts as parts

-- the records before byte `at` are read, and none after the first leads on
pub record Sofar (input : List ℕ) (at number : ℕ) : Type 0 where
  pub records : List (List Cell)
  pub reads : ReadUpTo records input (drop at input)
  pub stays : Stays records
  pub none_yet : at ≡ 0 → records ≡ []
  pub some_read : 0 < at → 0 < length records
  pub within : at ≤ length input
  pub counted : number ≡ length records + 1
  pub onward : number ≤ at + 1

pub sofar_none : (input : List ℕ) → Sofar input 0 1
sofar_none input = record { records = []; reads = tables.none; stays = tt; none_yet = λ _. refl; some_read = λ h. absurd (omega arith); within = omega arith; counted = refl; onward = omega arith }

all_push : {A : Type 0} (P : A → Type 0) (xs : List A) (x : A) → AllByRecursion P xs → P x → AllByRecursion P (xs ++ (x ∷ []))
all_push P [] x a p = (p, tt)
all_push P (y ∷ xs) x a p = (a.0, all_push P xs x a.1 p)

stays_push : (rs : List (List Cell)) (cs : List Cell) → Stays rs → (0 < length rs → LeadsOn cs → ⊥) → Stays (rs ++ (cs ∷ []))
stays_push [] cs s h = tt
stays_push (r ∷ rs) cs s h = all_push (λ l. LeadsOn l → ⊥) rs cs s (h (omega arith))

push_long : {A : Type 0} (xs : List A) (x : A) → 0 < length (xs ++ (x ∷ []))
push_long [] x = omega arith
push_long (y ∷ xs) x = let h = push_long xs x in omega arith

left : (input : List ℕ) (at : ℕ) → at < length input → 0 < length (drop at input)
left input at h = simp length-drop (omega arith)

module _ {input : List ℕ} {at number : ℕ} (s : Sofar input at number) where
  -- one record more
  pub sofar_more : {e : LineEnd} → at < length input → (l : LineRead input at e) → (0 < at → LeadsOn l.cells → ⊥) → Sofar input e.next (number + 1)
  sofar_more {e} low l Stays-on =
      let on = read_advances l low in
      record {
        records = s.records ++ (l.cells ∷ []);
        reads = tables.next l.cells (drop e.end input) (drop e.next input) s.reads (left input at low) l.line (passes l.leaves);
        stays = stays_push s.records l.cells s.stays (λ h. Stays-on (begun h));
        none_yet = λ h. absurd (omega arith);
        some_read = λ _. push_long s.records l.cells;
        within = l.next_within (omega arith);
        counted = omega (arith, s.counted, length_push s.records l.cells);
        onward = omega (arith, s.onward);
      }
    where
      begun : 0 < length s.records → 0 < at
      begun h = pos_of at (λ z. let e : length s.records ≡ 0 = ap length (s.none_yet z) in omega arith)
        where
          pos_of : (n : ℕ) → (n ≡ 0 → ⊥) → 0 < n
          pos_of zero f = absurd (f refl)
          pos_of (suc n) f = omega arith

  -- the next record leads on
  pub sofar_followed : {e : LineEnd} → 0 < at → (l : LineRead input at e) → LeadsOn l.cells → EndsAt input at number
  sofar_followed {e} h l leads = subst (EndsAt input at) (sym s.counted) (of s.records s.reads s.stays (s.some_read h))
    where
      of : (rs : List (List Cell)) → ReadUpTo rs input (drop at input) → Stays rs → 0 < length rs → EndsAt input at (length rs + 1)
      of [] r st n = absurd (omega arith)
      of (r ∷ rs) rd st n = parts.followed at r rs l.cells _ rd st l.line leads

  -- no record is left
  pub sofar_last : length input ≤ at → EndsAt input (length input) number
  sofar_last h = subst (EndsAt input (length input)) (sym s.counted) (parts.last s.records (subst (ReadUpTo s.records input) (drop_all at input h) s.reads) s.stays)

  -- the next does not stand
  pub sofar_broken : (e : TextFault) → length input ≤ 65536 → LineRefused input at number e → EndsAt input (length input) number
  sofar_broken (Malformed r f) short l = subst (EndsAt input (length input)) (sym s.counted) (parts.broken s.records (drop at input) f s.reads s.stays l.1)
  sofar_broken TooLong short l = absurd (omega arith)

-- ---- the first record's word

edge_decided : {input : List ℕ} {e : LineEnd} {b : Bool} → LineRead input 0 e → ((cs : List Cell) (ys : List ℕ) → Line cs input ys → Decides b (Says cs edge_word)) → Decides b (BeginsEdge input)
edge_decided {input} {e} l d = (λ h. record { cells = l.cells; after = drop e.end input; line = l.line; says = (d l.cells _ l.line).0 h }, λ g. (d g.cells _ g.line).1 g.says)

edge_broken : {input : List ℕ} (e : TextFault) → length input ≤ 65536 → LineRefused input 0 1 e → BeginsEdge input → ⊥
edge_broken (Malformed r f) short l g = line_not_broken g.cells g.line l.1
edge_broken TooLong short l g = absurd (omega arith)

pub edge_read : {input : List ℕ} {b : Bool} (r : Result LineEnd TextFault) → is_ok r ≡ true → MatchResult r (LineRead input 0) (LineRefused input 0 1)
    → ((cs : List Cell) (ys : List ℕ) → Line cs input ys → Decides b (Says cs edge_word)) → Decides b (BeginsEdge input)
edge_read (Ok e) ok l d = edge_decided l d
edge_read (Err e) ok l d = let z : ◌≡◌ {A = ℕ} 0 1 = cc in absurd (omega arith)

pub edge_unread : {input : List ℕ} {b : Bool} (r : Result LineEnd TextFault) → length input ≤ 65536 → b ≡ false → b ≡ is_ok r → MatchResult r (LineRead input 0) (LineRefused input 0 1) → Decides b (BeginsEdge input)
edge_unread (Ok e) short fails is l = let z : ◌≡◌ {A = ℕ} 0 1 = cc in absurd (omega arith)
edge_unread (Err e) short fails is l = (λ h. let z : ◌≡◌ {A = ℕ} 0 1 = cc in absurd (omega arith), λ g. absurd (edge_broken e short l g))
